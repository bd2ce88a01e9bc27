use Rattle.std.proofs.Common.{◌≡◌, ◌∙◌, codes, refl, sym, string_bytes, rules, arith}
use Rattle.std.proofs.lemmas.Str.{IsUtf8-string_bytes}
use Rattle.glslpp_html.proofs.Characters.{chars_same, chars_one, chars_pushed, linked_itself}
use Rattle.glslpp_html.proofs.text.push_link_character.Goals as goal

pub returns-in-37 : goal.returns-in-37
returns-in-37 c = rw c.in-37.is (chars_pushed c.push_str.result (string_bytes c.args.link.now) _ (codes "%25") _ (IsUtf8-string_bytes c.args.link.now)
    c.push_str.ensures.bytes (chars_same (codes "%25") refl))

pub returns-in-35 : goal.returns-in-35
returns-in-35 c = rw c.in-35.is (chars_pushed c.push_str-in-35.result (string_bytes c.args.link.now) _ (codes "%23") _ (IsUtf8-string_bytes c.args.link.now)
    c.push_str-in-35.ensures.bytes (chars_same (codes "%23") refl))

pub returns-in-63 : goal.returns-in-63
returns-in-63 c = rw c.in-63.is (chars_pushed c.push_str-in-63.result (string_bytes c.args.link.now) _ (codes "%3F") _ (IsUtf8-string_bytes c.args.link.now)
    c.push_str-in-63.ensures.bytes (chars_same (codes "%3F") refl))

pub returns-in-92 : goal.returns-in-92
returns-in-92 c = rw c.in-92.is (chars_pushed c.push_str-in-92.result (string_bytes c.args.link.now) _ (codes "%5C") _ (IsUtf8-string_bytes c.args.link.now)
    c.push_str-in-92.ensures.bytes (chars_same (codes "%5C") refl))

pub returns-in_default : goal.returns-in_default
returns-in_default c =
    let a : c.args.c ≡ 37 → ⊥ = λ e. omega (arith, e) in
    let b : c.args.c ≡ 35 → ⊥ = λ e. omega (arith, e) in
    let d : c.args.c ≡ 63 → ⊥ = λ e. omega (arith, e) in
    let f : c.args.c ≡ 92 → ⊥ = λ e. omega (arith, e) in
    chars_pushed c.push.result (string_bytes c.args.link.now) _ _ _ (IsUtf8-string_bytes c.args.link.now) c.push.ensures.bytes
    (chars_one c.args.c c.ranges.c.0 ∙ sym (linked_itself c.args.c a b d f))
