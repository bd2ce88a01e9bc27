use Rattle.std.proofs.Common.{ℕ, List, Bool, true, false, if◌then◌else◌, ◌≡◌, ◌∙◌, ◌++◌, ◌∷◌, [], ap, append-nil, arith, map, refl, sym, string_bytes}
use Rattle.std.specs.Str.{chars}
use Rattle.std.proofs.lemmas.Str.{IsUtf8-string_bytes, chars-nil}
use Rattle.glslpp_parts.specs.MakeRules.{spaced_words, prerequisites, empty_rules}
use Rattle.glslpp_parts.proofs.PiecesLemmas.{letter_appended}
use Rattle.glslpp_parts.proofs.dependencies.rule.Goals as goal
use Rattle.glslpp_parts.proofs.dependencies.rule.Goals.{then-has_phony_targets+in_ok-push_empty_rules, else-has_phony_targets}

with_choice : (text rules : List ℕ) (asked b : Bool) → asked ≡ b → text ++ (if b then rules else []) ≡ text ++ (if asked then rules else [])
with_choice text rules asked b e = ap (λ b. text ++ (if b then rules else [])) (sym e)

pub returns : goal.returns
returns c =
    let targets = spaced_words (map (λ target. chars target.now) c.args.targets.now) in
    let files = map (λ file. chars (string_bytes file)) c.args.files.now in
    let first = c.in_ok-push_targets.ensures ∙ ap (λ t. chars t ++ targets) c.new-text.ensures.bytes ∙ ap (λ t. t ++ targets) chars-nil in
    let colon = c.in_ok-push.ensures {u = tt} in
    let second = letter_appended (string_bytes c.push_targets.new.text) (string_bytes c.push.new.self) 58 (IsUtf8-string_bytes c.push_targets.new.text) colon.bytes (colon.ascii (omega arith)) refl
    ∙ ap (λ t. t ++ 58 ∷ []) first in
    let third = c.in_ok-push_prerequisites.ensures ∙ ap (λ t. t ++ prerequisites files) second in
    let line_end = c.in_ok-push-2.ensures {u = tt} in
    let fourth = letter_appended (string_bytes c.push_prerequisites.new.text) (string_bytes c.push-2.new.self) 10 (IsUtf8-string_bytes c.push_prerequisites.new.text) line_end.bytes (line_end.ascii (omega arith)) refl
    ∙ ap (λ t. t ++ 10 ∷ []) third in
    elim c.if-has_phony_targets.branch [
      | then-has_phony_targets+in_ok-push_empty_rules w ↦ ap (λ t. chars (string_bytes t)) w.text-is ∙ w.in_ok-push_empty_rules.ensures ∙ ap (λ t. t ++ empty_rules files) fourth
          ∙ with_choice _ _ c.args.has_phony_targets true w.if-has_phony_targets.true
      | else-has_phony_targets w ↦ ap (λ t. chars (string_bytes t)) w.text-is ∙ fourth ∙ sym (append-nil _)
          ∙ with_choice _ _ c.args.has_phony_targets false w.if-has_phony_targets.false
    ]
