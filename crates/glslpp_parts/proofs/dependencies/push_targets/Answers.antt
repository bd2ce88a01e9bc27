use Rattle.std.proofs.Common.{◌∙◌, ◌++◌, ap, append_assoc, arith, map, refl, sym, string_bytes}
use Rattle.std.specs.List.{flat_map}
use Rattle.std.specs.Prelude.{codes}
use Rattle.std.specs.Str.{chars}
use Rattle.std.proofs.lemmas.Str.{IsUtf8-string_bytes}
use Rattle.glslpp_parts.specs.MakeRules.{spaced_words}
use Rattle.glslpp_parts.proofs.CharactersLemmas.{chars_appended}
use Rattle.glslpp_parts.proofs.PiecesLemmas.{letter_appended, one_more_piece, word_appended}
use Rattle.glslpp_parts.proofs.dependencies.push_targets.Goals as goal

pub loop-other-init : goal.loop-other-init
loop-other-init c =
    let old = chars (string_bytes c.args.text.now) in
    let first = c.in-Some.first.now.now in
    let rest = flat_map (λ other. codes " " ++ other) (map (λ target. chars target.now) c.in-Some.others.now) in
    ap (λ t. t ++ rest) (chars_appended (string_bytes c.args.text.now) (string_bytes c.push_str.new.self) first (chars first) (IsUtf8-string_bytes c.args.text.now)
    c.in_ok-push_str.ensures.bytes refl)
    ∙ append_assoc old (chars first) rest
    ∙ ap (λ targets. old ++ spaced_words (map (λ target. chars target.now) targets)) (sym c.in-Some.ensures.cases.0)

pub loop-other-preserved : goal.loop-other-preserved
loop-other-preserved c =
    let old = chars (string_bytes c.loop-other.text) in
    let others = c.in-Some.others.now in
    let pushed = c.in_ok-push.ensures {u = tt} in
    let blank = letter_appended (string_bytes c.loop-other.text) (string_bytes c.push.new.self) 32 (IsUtf8-string_bytes c.loop-other.text) pushed.bytes (pushed.ascii (omega arith)) refl in
    one_more_piece (λ other. codes " " ++ other) (λ target. chars target.now) others c.loop-other.other-index _ _ old
    (chars (string_bytes c.push_str-in-loop-other.new.self)) c.loop-other-test.true
    (word_appended (string_bytes c.loop-other.text) (string_bytes c.push.new.self) (string_bytes c.push_str-in-loop-other.new.self) _ 32
    (IsUtf8-string_bytes c.push.new.self) blank c.in_ok-push_str-2.ensures.bytes) c.loop-other.invariant
