use Rattle.std.proofs.Common.{◌≡◌, codes, refl, sym, subst, string_bytes, ◌++◌, arith}
use Rattle.std.specs.Prelude.{OnOk}
use Rattle.std.specs.Str.{chars}
use Rattle.std.proofs.lemmas.Str.{IsUtf8-string_bytes}
use Rattle.glslpp_html.proofs.Characters.{chars_same, chars_pushed}
use Rattle.glslpp_html.proofs.Showing.{value_escaped}
use Rattle.glslpp_html.proofs.text.push_value_character.Goals as goal

pub returns-in-34 : goal.returns-in-34
returns-in-34 c = rw c.in-34.is (chars_pushed c.push_str.result (string_bytes c.args.page.now) _ (codes "&quot;") _ (IsUtf8-string_bytes c.args.page.now)
    c.push_str.ensures.bytes (chars_same (codes "&quot;") refl))

pub returns-in-62 : goal.returns-in-62
returns-in-62 c = rw c.in-62.is (chars_pushed c.push_str-in-62.result (string_bytes c.args.page.now) _ (codes "&gt;") _ (IsUtf8-string_bytes c.args.page.now)
    c.push_str-in-62.ensures.bytes (chars_same (codes "&gt;") refl))

pub returns-in_default : goal.returns-in_default
returns-in_default c =
    let a : c.args.c ≡ 34 → ⊥ = λ e. omega (arith, e) in
    let b : c.args.c ≡ 62 → ⊥ = λ e. omega (arith, e) in
    subst (λ t. OnOk c.push_escaped.result (chars (string_bytes c.push_escaped.new.page) ≡ chars (string_bytes c.args.page.now) ++ t))
    (sym (value_escaped c.args.c a b)) c.push_escaped.ensures
