-- A float's text is read as itself.
use Rattle.std.proofs.Common.{◌≡◌, ℕ, ℤ, List, [], ◌∷◌, ◌++◌, length, codes, Bool, true, not, ◌&&◌, ◌==◌, append_assoc, length-append, refl, ◌∙◌, ap, map, filter, Ok, if◌then◌else◌, arith}
use Rattle.std.specs.List.{list_all}
use Rattle.std.proofs.lemmas.Bool.{and_parts, eqb-true, eq-eqb, and_from}
use Rattle.pp_lexer.specs.declared.rules.Rules.{Rules}
use Rattle.pp_lexer.specs.declared.token.Float.{Float as FloatLiteral}
use Rattle.pp_lexer.specs.declared.lexer.item.TokenValue.TheVariants.{Float}
use Rattle.pp_lexer.specs.Numbers.{is_x, is_decimal}
use Rattle.pp_lexer.specs.NumberValue.{float_text, is_float_text, float_value, is_float}
use Rattle.pp_lexer.specs.inner.NumberValue.{small_e}
use Rattle.pp_lexer.specs.Respelling.{IsWidth}
use Rattle.pp_lexer.specs.Spelling.{width_letters, float_literal}
use Rattle.pp_lexer.specs.Words.{word_at}
use Rattle.pp_lexer.proofs.numbers.NumbersLemmas.{either_apart, e_apart}
use Rattle.pp_lexer.proofs.numbers.NumberSetsLemmas.{made_float_text, float_text_number}
use Rattle.pp_lexer.proofs.words.SetsLemmas.{Implies}
use Rattle.pp_lexer.proofs.spelling.SpelledWordLemmas.{IsBreak, spelled_number}
use Rattle.pp_lexer.proofs.spelling.SuffixSpellingLemmas.{float_ends}

-- a character that stays in a float's text as it is
abbrev is_kept : ℕ → Bool
is_kept c = not (is_x c) && (small_e c == c)

decimal_kept : Implies is_decimal is_kept
decimal_kept c d =
    let same : small_e c ≡ c = ap (λ b. if b then 101 else c) (e_apart c d) in
    and_from (not (is_x c)) (small_e c == c) (ap not (either_apart 120 88 10 refl refl c d)) (eq-eqb (small_e c) c same)

all_kept : (w : List ℕ) → list_all is_kept w ≡ true → float_text w ≡ w
all_kept [] h = refl
all_kept (c ∷ w) h =
    let b = and_parts (is_kept c) (list_all is_kept w) h in
    let k = and_parts (not (is_x c)) (small_e c == c) b.0 in
    ap (λ t. map small_e (if t then c ∷ filter (λ c. not (is_x c)) w else filter (λ c. not (is_x c)) w)) k.0
    ∙ ap (λ x. x ∷ float_text w) (eqb-true (small_e c) c k.1) ∙ ap (λ xs. c ∷ xs) (all_kept w b.1)

-- nothing of a float's text is changed
pub float_text_same : (w : List ℕ) → is_float_text w ≡ true → float_text w ≡ w
float_text_same w h = all_kept w (made_float_text is_kept decimal_kept refl refl refl refl w h)

pub value_same : (w : List ℕ) → is_float_text w ≡ true → (width : ℤ) → float_value width w ≡ Ok (Float (record { text = w; width = width }))
value_same w h width = grind (arith, float_text_same)

-- a float is read as itself
pub spelled_float : (rules : Rules) (f : FloatLiteral) (cs : List ℕ) → is_float_text f.text ≡ true → is_float f.text ≡ true → IsWidth rules f.width
    → IsBreak cs
    → word_at rules (float_literal f.text f.width ++ cs) ≡ record { value = Ok (Float f); taken = length (float_literal f.text f.width) }
spelled_float rules f cs h k e b =
    let letters : List ℕ = width_letters (codes "lf") (codes "hf") f.width in
    let end = float_ends rules cs b f.width e in
    ap (word_at rules) (append_assoc f.text letters cs)
    ∙ spelled_number rules f.text (letters ++ cs) (float_text_number f.text h) end.ends
    ∙ rw (k, end.suffix, end.unrefused, value_same f.text h f.width, length-append f.text letters) refl
