use Rattle.std.proofs.Common.{◌≡◌, ◌∙◌, ◌++◌, ◌∷◌, [], ap, append-nil, rules, sym, string_bytes}
use Rattle.std.specs.Str.{chars}
use Rattle.std.proofs.lemmas.Str.{chars-nil}
use Rattle.std.proofs.lemmas.Iterator.{YieldsList-from_chars}
use Rattle.std.proofs.lemmas.Iterator.Consumers.{YieldsList-end}
use Rattle.std.proofs.lemmas.List.{map-id}
use Rattle.glslpp_parts.specs.FileNames.{escaped, escaped_after, escape_of}
use Rattle.glslpp_parts.proofs.FileNamesLemmas.{one_more_escaped}
use Rattle.glslpp_parts.proofs.dependencies.push_name.Goals as goal

pub characters-init : goal.characters-init
characters-init c = λ rest. ap (λ before. chars (string_bytes c.args.text.now) ++ escaped_after before rest) (ap chars c.new-backslashes.ensures.bytes ∙ chars-nil)

pub characters-preserved : goal.characters-preserved
characters-preserved c =
    let so_far = chars (string_bytes c.characters.text) in
    let letter = c.in-Some.c in
    λ rest. one_more_escaped (chars (string_bytes c.args.text.now)) so_far (chars (string_bytes c.push_escaped.new.text))
    (chars (string_bytes c.characters.backslashes)) (chars (string_bytes c.count.new.backslashes)) c.characters.yielded rest letter
    (c.in_ok-push_escaped.ensures ∙ ap (λ before. so_far ++ escape_of (chars before) letter ++ letter ∷ []) c.as_str.ensures.value)
    c.in_ok-count.ensures c.characters.invariant

pub returns : goal.returns
returns c =
    let all = YieldsList-end (YieldsList-from_chars {s = c.into_iter-c-iterator.result} c.args.name.now c.utf8.name (search rules))
    c.characters.yielded c.characters.c-iterator c.characters.yielded_by c.next.result c.next.new.self c.in-None.is c.next.ensures.steps in
    let whole : c.characters.yielded ≡ chars c.args.name.now = sym (map-id c.characters.yielded) ∙ all.0 in
    sym (append-nil (chars (string_bytes c.characters.text))) ∙ c.characters.invariant []
    ∙ ap (λ cs. chars (string_bytes c.args.text.now) ++ escaped cs) (append-nil c.characters.yielded ∙ whole)
