use Rattle.std.proofs.Common.{◌≡◌, ◌∙◌, codes, refl, sym, string_bytes, rules, arith}
use Rattle.std.proofs.lemmas.Str.{IsUtf8-string_bytes}
use Rattle.glslpp_html.proofs.Characters.{chars_same, chars_one, chars_pushed}
use Rattle.glslpp_html.proofs.Showing.{escaped_itself}
use Rattle.glslpp_html.proofs.text.push_escaped.Goals as goal

pub returns-in-60 : goal.returns-in-60
returns-in-60 c = rw c.in-60.is (chars_pushed c.push_str.result (string_bytes c.args.page.now) _ (codes "&lt;") _ (IsUtf8-string_bytes c.args.page.now)
    c.push_str.ensures.bytes (chars_same (codes "&lt;") refl))

pub returns-in-38 : goal.returns-in-38
returns-in-38 c = rw c.in-38.is (chars_pushed c.push_str-in-38.result (string_bytes c.args.page.now) _ (codes "&amp;") _ (IsUtf8-string_bytes c.args.page.now)
    c.push_str-in-38.ensures.bytes (chars_same (codes "&amp;") refl))

pub returns-in-13 : goal.returns-in-13
returns-in-13 c = rw c.in-13.is (chars_pushed c.push_str-in-13.result (string_bytes c.args.page.now) _ (codes "&#13;") _ (IsUtf8-string_bytes c.args.page.now)
    c.push_str-in-13.ensures.bytes (chars_same (codes "&#13;") refl))

pub returns-in-0 : goal.returns-in-0
returns-in-0 c = rw c.in-0.is (chars_pushed c.push.result (string_bytes c.args.page.now) _ _ _ (IsUtf8-string_bytes c.args.page.now) c.push.ensures.bytes
    (chars_one 65533 (search rules)))

pub returns-in_default : goal.returns-in_default
returns-in_default c =
    let a : c.args.c ≡ 60 → ⊥ = λ e. omega (arith, e) in
    let b : c.args.c ≡ 38 → ⊥ = λ e. omega (arith, e) in
    let d : c.args.c ≡ 13 → ⊥ = λ e. omega (arith, e) in
    let f : c.args.c ≡ 0 → ⊥ = λ e. omega (arith, e) in
    chars_pushed c.push-in_default.result (string_bytes c.args.page.now) _ _ _ (IsUtf8-string_bytes c.args.page.now) c.push-in_default.ensures.bytes
    (chars_one c.args.c c.ranges.c.0 ∙ sym (escaped_itself c.args.c a b d f))
