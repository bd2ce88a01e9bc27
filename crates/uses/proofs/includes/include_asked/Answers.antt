use Rattle.std.proofs.Common.{◌≡◌, ◌∙◌, List, ℕ, Some, [], ◌∷◌, map, ap, sym, string_bytes}
use Rattle.std.specs.Prelude.{option_map}
use Rattle.std.proofs.lemmas.List.{map-append}
use Rattle.uses.specs.declared.includes.SourceFile.{SourceFile}
use Rattle.uses.proofs.includes.include_asked.Goals as goal

pub returns-clause-included : goal.returns-clause-included
returns-clause-included c =
    let text_of : SourceFile → List ℕ = λ t. t.text.now in
    record {
      name = c.in-Some-asked_name.name.now;
      asked = rw c.deref-2.ensures.value at c.in-Some-asked_name.ensures;
      text = c.as_str-text.result.now;
      found = ap (option_map string_bytes) (sym c.in-Some-get.ensures.value) ∙ ap Some (sym c.as_str-text.ensures.value);
      included = rw c.in_ok-context.ensures at c.try_include.ensures;
      pushed = ap (map text_of) c.in_ok-push.ensures.items ∙ map-append text_of c.args.read.now.items _;
    }
