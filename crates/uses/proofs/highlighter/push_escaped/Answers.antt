use Rattle.std.proofs.Common.{◌≡◌, ◌∙◌, codes, refl, sym, string_bytes, arith}
use Rattle.std.proofs.lemmas.Str.{IsUtf8-string_bytes}
use Rattle.uses.proofs.Texts.{chars_same, chars_one, chars_pushed}
use Rattle.uses.proofs.Pages.{escaped_itself}
use Rattle.uses.proofs.highlighter.push_escaped.Goals as goal

pub returns-in-60 : goal.returns-in-60
returns-in-60 c = rw c.in-60.is (chars_pushed c.push_str.result (string_bytes c.args.text.now) _ (codes "&lt;") _ (IsUtf8-string_bytes c.args.text.now)
    c.push_str.ensures.bytes (chars_same (codes "&lt;") refl))

pub returns-in-38 : goal.returns-in-38
returns-in-38 c = rw c.in-38.is (chars_pushed c.push_str-in-38.result (string_bytes c.args.text.now) _ (codes "&amp;") _ (IsUtf8-string_bytes c.args.text.now)
    c.push_str-in-38.ensures.bytes (chars_same (codes "&amp;") refl))

pub returns-in_default : goal.returns-in_default
returns-in_default c =
    let not_less : c.args.c ≡ 60 → ⊥ = λ e. omega (arith, e) in
    let not_and : c.args.c ≡ 38 → ⊥ = λ e. omega (arith, e) in
    chars_pushed c.push.result (string_bytes c.args.text.now) _ _ _ (IsUtf8-string_bytes c.args.text.now) c.push.ensures.bytes
    (chars_one c.args.c c.ranges.c.0 ∙ sym (escaped_itself c.args.c not_less not_and))
