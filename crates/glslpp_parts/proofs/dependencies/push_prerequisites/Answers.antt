use Rattle.std.proofs.Common.{◌∙◌, ◌++◌, ◌∷◌, [], ap, append_assoc, arith, map, refl, sym, string_bytes}
use Rattle.std.specs.List.{flat_map}
use Rattle.std.specs.Prelude.{codes}
use Rattle.std.specs.Str.{chars}
use Rattle.std.proofs.lemmas.Str.{IsUtf8-string_bytes}
use Rattle.glslpp_parts.specs.FileNames.{escaped}
use Rattle.glslpp_parts.specs.MakeRules.{continued_name, prerequisites}
use Rattle.glslpp_parts.proofs.CharactersLemmas.{chars_appended, chars_same}
use Rattle.glslpp_parts.proofs.PiecesLemmas.{four_parts, letter_appended, one_more_piece}
use Rattle.glslpp_parts.proofs.dependencies.push_prerequisites.Goals as goal

pub loop-other-init : goal.loop-other-init
loop-other-init c =
    let old = chars (string_bytes c.args.text.now) in
    let first = chars (string_bytes c.in-Some.first.now) in
    let rest = flat_map continued_name (map (λ file. chars (string_bytes file)) c.in-Some.others.now) in
    let pushed = c.in_ok-push.ensures {u = tt} in
    let blank = letter_appended (string_bytes c.args.text.now) (string_bytes c.push.new.self) 32 (IsUtf8-string_bytes c.args.text.now) pushed.bytes (pushed.ascii (omega arith)) refl in
    ap (λ t. t ++ rest) (c.in_ok-push_name.ensures ∙ ap (λ t. t ++ escaped (chars c.as_str.result.now)) blank
    ∙ ap (λ name. (old ++ 32 ∷ []) ++ escaped (chars name)) c.as_str.ensures.value)
    ∙ four_parts old (32 ∷ []) (escaped first) rest
    ∙ ap (λ files. old ++ prerequisites (map (λ file. chars (string_bytes file)) files)) (sym c.in-Some.ensures.cases.0)

pub loop-other-preserved : goal.loop-other-preserved
loop-other-preserved c =
    let old = chars (string_bytes c.loop-other.text) in
    let between = chars_appended (string_bytes c.loop-other.text) (string_bytes c.push_str.new.self) (codes " \\\n  ") (codes " \\\n  ") (IsUtf8-string_bytes c.loop-other.text)
    c.in_ok-push_str.ensures.bytes (chars_same (codes " \\\n  ") refl) in
    one_more_piece continued_name (λ file. chars (string_bytes file)) c.in-Some.others.now c.loop-other.other-index c.other-item.result _ old
    (chars (string_bytes c.push_name-in-loop-other.new.text)) c.loop-other-test.true
    (c.in_ok-push_name-2.ensures ∙ ap (λ t. t ++ escaped (chars c.as_str-in-loop-other.result.now)) between
    ∙ ap (λ name. (old ++ codes " \\\n  ") ++ escaped (chars name)) c.as_str-in-loop-other.ensures.value
    ∙ append_assoc old (codes " \\\n  ") (escaped (chars (string_bytes c.other-item.result)))
    ∙ ap (λ file. old ++ continued_name (chars (string_bytes file))) c.other-item.is) c.loop-other.invariant
