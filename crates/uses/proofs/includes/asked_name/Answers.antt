use Rattle.std.proofs.Common.{◌≡◌, ◌∙◌, List, ℕ, Some, length, map, ap, sym, subst, refl, lit<}
use Rattle.std.specs.Prelude.{slice_get, option_map}
use Rattle.std.proofs.lemmas.Option.{slice_get-map, slice_get_read}
use Rattle.std.proofs.lemmas.Str.Pattern.{split_parts}
use Rattle.uses.specs.declared.includes.SourceFile.{SourceFile}
use Rattle.uses.specs.Includes.{IsQuotedOn}
use Rattle.uses.proofs.Included.{quoted}
use Rattle.uses.proofs.includes.asked_name.Goals as goal

pub returns : goal.returns
returns c =
    let read = c.args.read.now in
    let n = c.origin.result.text in
    let asking = c.in_ok-asking.asking.now in
    let text_of : SourceFile → List ℕ = λ t. t.text.now in
    let there : slice_get read n ≡ Some asking = slice_get_read read (length read) n asking refl c.in_ok-asking.ensures.lookup.3.0 c.in_ok-asking.ensures.lookup.1 in
    let first = split_parts 34 c.in_ok-line.line.now (Some (c.in_ok-quoted.field-0-0, c.in_ok-quoted.quoted)) c.in_ok-quoted.ensures.cases (lit< tt) in
    let second = split_parts 34 c.in_ok-quoted.quoted.now (Some (c.in_ok-name.name, c.in_ok-name.field-0-1)) c.in_ok-name.ensures.cases (lit< tt) in
    record {
      rest = c.in_ok-rest.rest;
      asks = sym c.in_ok-rest.ensures;
      named = record {
        text = asking.text.now;
        numbered = subst (λ m. slice_get (map text_of read) m ≡ Some asking.text.now) (ap (λ o. o.text) c.origin.ensures)
            (slice_get-map text_of read n ∙ ap (option_map text_of) there);
        quoted = subst (λ line. IsQuotedOn line c.in_ok-name.name.now) c.in_ok-line.ensures.cases.0 (quoted c.in_ok-line.line.now c.in_ok-quoted.field-0-0.now c.in_ok-quoted.quoted.now c.in_ok-name.name.now c.in_ok-name.field-0-1.now first second);
      };
    }
