use Rattle.std.proofs.Common.{◌∙◌, ◌++◌, ap, append_assoc, refl, string_bytes}
use Rattle.std.specs.Prelude.{codes}
use Rattle.std.specs.Str.{chars}
use Rattle.std.proofs.lemmas.Str.{IsUtf8-string_bytes}
use Rattle.glslpp_parts.specs.FileNames.{escaped}
use Rattle.glslpp_parts.specs.MakeRules.{empty_rule}
use Rattle.glslpp_parts.proofs.CharactersLemmas.{chars_appended, chars_same}
use Rattle.glslpp_parts.proofs.PiecesLemmas.{one_more_piece}
use Rattle.glslpp_parts.proofs.dependencies.push_empty_rules.Goals as goal

pub loop-other-preserved : goal.loop-other-preserved
loop-other-preserved c =
    let old = chars (string_bytes c.loop-other.text) in
    let file = chars (string_bytes c.other-item.result) in
    let named = c.in_ok-push_name.ensures ∙ ap (λ name. old ++ escaped (chars name)) c.as_str.ensures.value in
    one_more_piece empty_rule (λ file. chars (string_bytes file)) c.in-Some.others.now c.loop-other.other-index c.other-item.result _ old
    (chars (string_bytes c.push_str.new.self)) c.loop-other-test.true
    (chars_appended (string_bytes c.push_name.new.text) (string_bytes c.push_str.new.self) (codes ":\n") (codes ":\n") (IsUtf8-string_bytes c.push_name.new.text)
    c.in_ok-push_str.ensures.bytes (chars_same (codes ":\n") refl) ∙ ap (λ t. t ++ codes ":\n") named
    ∙ append_assoc old (escaped file) (codes ":\n")
    ∙ ap (λ file. old ++ empty_rule (chars (string_bytes file))) c.other-item.is) c.loop-other.invariant
