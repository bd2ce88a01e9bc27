-- A float's text is the longest number, if what stands after it goes on with no number.
use Rattle.std.proofs.Common.{◌≡◌, ℕ, ◌+◌, List, [], ◌∷◌, ◌++◌, length, Bool, true, false, ◌&&◌, ◌==◌, suc, refl, ◌∙◌, ap, arith, inl, inr}
use Rattle.std.proofs.lemmas.Bool.{and_parts, eqb-true, false≢true, or_cases, or_left, or_right, and_from}
use Rattle.pp_lexer.specs.Longest.{longest}
use Rattle.pp_lexer.specs.Numbers.{is_zero, is_x, is_point, is_e, is_sign, is_decimal, digits, exponent, fraction, decimal_tail, is_number}
use Rattle.pp_lexer.specs.NumberValue.{float_exponent, float_tail, is_float_text}
use Rattle.pp_lexer.specs.inner.NumberValue.{float_power}
use Rattle.pp_lexer.specs.inner.Numbers.{signed_digits}
use Rattle.pp_lexer.specs.Spellings.{nothing, one, many}
use Rattle.pp_lexer.specs.Surroundings.{begins_with}
use Rattle.pp_lexer.proofs.characters.PlainFrontsLemmas.{front_len-append}
use Rattle.pp_lexer.proofs.numbers.FloatLemmas.{tail_apart}
use Rattle.pp_lexer.proofs.numbers.NumberSetsLemmas.{some_digits}
use Rattle.pp_lexer.proofs.numbers.NumbersLemmas.{either_apart, point_apart, exponent_apart, decimal_tail_apart, sign_apart, exponent_none, decimal_tail_len, decimal_tail_none, point_number_len, digit_number_len, zero_number_len, after_zero_digits}
use Rattle.pp_lexer.proofs.numbers.PlainNumbersLemmas.{NoMore, digits_len, fraction_of}
use Rattle.pp_lexer.proofs.words.LongestLemmas.{longest_all, longest_same, longest_step, many_pass, many_stop, longest-maybe_pass, longest-maybe_stop, longest-optional_pass}
use Rattle.pp_lexer.proofs.words.SetsLemmas.{made_many, made_nothing}

-- an exponent begins with `e`
exponent_begins : (p : ℕ → Bool) → p 101 ≡ false → (w cs : List ℕ) → float_exponent w ≡ true → begins_with p cs ≡ false
    → begins_with p (w ++ cs) ≡ false
exponent_begins p h [] cs e f = f
exponent_begins p h (c ∷ w) cs e f = ap p (eqb-true c 101 (and_parts (c == 101) (float_power w) e).0) ∙ h

-- what begins with one digit
one_begins : (P : List ℕ → Bool) (w cs : List ℕ) → one is_decimal P w ≡ true → begins_with is_decimal (w ++ cs) ≡ true
one_begins P [] cs h = absurd (false≢true h)
one_begins P (c ∷ w) cs h = (and_parts (is_decimal c) (P w) h).0

one_many : (P : List ℕ → Bool) (w : List ℕ) → one is_decimal (many is_decimal P) w ≡ true → many is_decimal P w ≡ true
one_many P [] h = absurd (false≢true h)
one_many P (c ∷ w) h = or_right (P (c ∷ w)) (is_decimal c && many is_decimal P w) h

-- an exponent or a point is no digit
tail_no_digit : (c : ℕ) (w : List ℕ) → float_tail (c ∷ w) ≡ true → is_decimal c ≡ false
tail_no_digit c w h = grind (arith, tail_apart)

module _ (cs : List ℕ) (e : NoMore cs) where
  digits_full : (w : List ℕ) → digits w ≡ true → longest digits (w ++ cs) ≡ length w
  digits_full w d =
      longest_all is_decimal (w ++ cs)
      ∙ front_len-append is_decimal w cs (made_many is_decimal is_decimal nothing (λ c h. h) (made_nothing is_decimal) w d) e.decimal

  power_full : (w : List ℕ) → float_power w ≡ true → longest signed_digits (w ++ cs) ≡ length w
  power_full [] h = absurd (false≢true h)
  power_full (c ∷ w) h =
      elim (or_cases (is_decimal c && digits w) (is_sign c && one is_decimal digits w) h) [
        | inl x ↦
            let d = (and_parts (is_decimal c) (digits w) x).0 in
            longest-maybe_stop is_sign digits refl sign_apart c (w ++ cs) (either_apart 43 45 10 refl refl c d) ∙ digits_full (c ∷ w) x
        | inr y ↦
            let b = and_parts (is_sign c) (one is_decimal digits w) y in
            longest-maybe_pass is_sign digits refl sign_apart c (w ++ cs) b.0 ∙ ap suc (digits_full w (some_digits w b.1))
      ]

  exponent_full : (w : List ℕ) → float_exponent w ≡ true → longest exponent (w ++ cs) ≡ length w
  exponent_full [] h = exponent_none cs e.mark
  exponent_full (c ∷ w) h =
      let b = and_parts (c == 101) (float_power w) h in
      longest-optional_pass is_e signed_digits refl c (w ++ cs) (or_left (c == 101) (c == 69) b.0) ∙ ap suc (power_full w b.1)

  fraction_full : (w : List ℕ) → many is_decimal float_exponent w ≡ true → longest fraction (w ++ cs) ≡ length w
  fraction_full [] h = fraction_of cs e.decimal [] refl e.mark
  fraction_full (c ∷ w) h =
      elim (or_cases (float_exponent (c ∷ w)) (is_decimal c && many is_decimal float_exponent w) h) [
        | inl x ↦
            let no : is_decimal c ≡ false = ap is_decimal (eqb-true c 101 (and_parts (c == 101) (float_power w) x).0) in
            longest_same fraction exponent c (w ++ cs) (λ t. many_stop is_decimal exponent refl exponent_apart c t no) ∙ exponent_full (c ∷ w) x
        | inr y ↦
            let b = and_parts (is_decimal c) (many is_decimal float_exponent w) y in
            longest_step fraction fraction c (w ++ cs) (many_pass is_decimal exponent refl exponent_apart c [] b.0)
            (λ t. many_pass is_decimal exponent refl exponent_apart c t b.0) ∙ ap suc (fraction_full w b.1)
      ]

  point_full : (w : List ℕ) → one is_point (many is_decimal float_exponent) w ≡ true → longest decimal_tail (w ++ cs) ≡ length w
  point_full w h = grind (arith, decimal_tail_len, fraction_full)

  tail_full : (w : List ℕ) → float_tail w ≡ true → longest decimal_tail (w ++ cs) ≡ length w
  tail_full w h = grind (arith, or_cases, decimal_tail_none, exponent_full, point_full)

  rest_full : (w : List ℕ) → many is_decimal float_tail w ≡ true → longest (many is_decimal decimal_tail) (w ++ cs) ≡ length w
  rest_full [] h = digits_len cs e.decimal [] refl ∙ ap (λ k. 0 + k) (decimal_tail_none cs e.point ∙ exponent_none cs e.mark)
  rest_full (c ∷ w) h =
      elim (or_cases (float_tail (c ∷ w)) (is_decimal c && many is_decimal float_tail w) h) [
        | inl x ↦
            longest_same (many is_decimal decimal_tail) decimal_tail c (w ++ cs)
            (λ t. many_stop is_decimal decimal_tail refl decimal_tail_apart c t (tail_no_digit c w x)) ∙ tail_full (c ∷ w) x
        | inr y ↦
            let b = and_parts (is_decimal c) (many is_decimal float_tail w) y in
            longest_step (many is_decimal decimal_tail) (many is_decimal decimal_tail) c (w ++ cs)
            (many_pass is_decimal decimal_tail refl decimal_tail_apart c [] b.0)
            (λ t. many_pass is_decimal decimal_tail refl decimal_tail_apart c t b.0) ∙ ap suc (rest_full w b.1)
      ]

  -- no `x` follows a first digit
  no_x_there : (w : List ℕ) → many is_decimal float_tail w ≡ true → begins_with is_x (w ++ cs) ≡ false
  no_x_there [] h = e.x
  no_x_there (c ∷ w) h =
      elim (or_cases (float_tail (c ∷ w)) (is_decimal c && many is_decimal float_tail w) h) [
        | inl x ↦
            elim (or_cases (float_exponent (c ∷ w)) (is_point c && many is_decimal float_exponent w) x) [
              | inl y ↦ ap is_x (eqb-true c 101 (and_parts (c == 101) (float_power w) y).0)
              | inr z ↦ ap is_x (eqb-true c 46 (and_parts (is_point c) (many is_decimal float_exponent w) z).0)
            ]
        | inr y ↦ either_apart 120 88 10 refl refl c (and_parts (is_decimal c) (many is_decimal float_tail w) y).0
      ]

  digit_full : (c : ℕ) (w : List ℕ) → is_decimal c ≡ true → many is_decimal float_tail w ≡ true → longest is_number ((c ∷ w) ++ cs) ≡ length (c ∷ w)
  digit_full c w d h = by (is_zero c) refl
    where
      by : (b : Bool) → is_zero c ≡ b → longest is_number (c ∷ (w ++ cs)) ≡ suc (length w)
      by true z =
          let after = after_zero_digits (w ++ cs) (no_x_there w h) in
          zero_number_len (c ∷ (w ++ cs)) z ∙ ap (λ k. 1 + k) (after ∙ rest_full w h) ∙ omega arith
      by false z =
          digit_number_len (c ∷ (w ++ cs)) (or_left (is_decimal c) (is_point c && begins_with is_decimal (w ++ cs)) d) (point_apart c d) z
          ∙ rest_full (c ∷ w) (or_right (float_tail (c ∷ w)) (is_decimal c && many is_decimal float_tail w) (and_from (is_decimal c) _ d h))

  pub float_full : (w : List ℕ) → is_float_text w ≡ true → longest is_number (w ++ cs) ≡ length w
  float_full w h = grind (arith, or_cases, and_parts, digit_full, or_right, and_from, one_begins, point_number_len, fraction_full, one_many)
