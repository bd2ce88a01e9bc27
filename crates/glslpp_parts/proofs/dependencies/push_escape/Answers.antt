use Rattle.std.proofs.Common.{◌≡◌, ◌∙◌, ◌++◌, ◌∷◌, [], ap, append_assoc, refl, sym, string_bytes}
use Rattle.std.specs.Str.{chars}
use Rattle.std.proofs.lemmas.Str.{IsUtf8-string_bytes}
use Rattle.glslpp_parts.proofs.CharactersLemmas.{chars_same, chars_appended, chars_pushed, on_ok}
use Rattle.glslpp_parts.proofs.dependencies.push_escape.Goals as goal

pub returns-then-is_blank : goal.returns-then-is_blank
returns-then-is_blank c =
    let old = chars (string_bytes c.args.text.now) in
    let first = string_bytes c.push_str.new.self in
    let new = string_bytes c.push_str-then-is_blank.new.self in
    let before = chars c.args.backslashes.now in
    let backslashes = chars_appended (string_bytes c.args.text.now) first c.args.backslashes.now before (IsUtf8-string_bytes c.args.text.now)
    c.in_ok-push_str.ensures.bytes refl in
    rw (sym c.is_blank.ensures ∙ c.if-is_blank.true) (on_ok c.push_str-then-is_blank.result _ _
    (λ (e : chars new ≡ chars first ++ 92 ∷ []). e ∙ ap (λ t. t ++ 92 ∷ []) backslashes ∙ append_assoc old before (92 ∷ []))
    (chars_pushed c.push_str-then-is_blank.result first new (92 ∷ []) (92 ∷ []) (IsUtf8-string_bytes c.push_str.new.self)
    c.push_str-then-is_blank.ensures.bytes (chars_same (92 ∷ []) refl)))

pub returns-in-35 : goal.returns-in-35
returns-in-35 c = rw c.in-35.is (chars_pushed c.push_str-in-35.result (string_bytes c.args.text.now) _ (92 ∷ []) _ (IsUtf8-string_bytes c.args.text.now)
    c.push_str-in-35.ensures.bytes (chars_same (92 ∷ []) refl))

pub returns-in-36 : goal.returns-in-36
returns-in-36 c = rw c.in-36.is (chars_pushed c.push_str-in-36.result (string_bytes c.args.text.now) _ (36 ∷ []) _ (IsUtf8-string_bytes c.args.text.now)
    c.push_str-in-36.ensures.bytes (chars_same (36 ∷ []) refl))
