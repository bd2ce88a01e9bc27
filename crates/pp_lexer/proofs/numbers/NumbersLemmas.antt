-- The longest front in each of the sets that a number is made of.
use Rattle.std.proofs.Common.{◌≡◌, ℕ, zero, suc, ◌+◌, ◌<◌, List, [], ◌∷◌, length, take, drop, Bool, true, false, ◌&&◌, ◌||◌, ◌==◌, refl, sym, ◌∙◌, ap, arith, inl, inr, zero-add, if◌then◌else◌}
use Rattle.std.proofs.Math.Bool.{or-false}
use Rattle.std.proofs.lemmas.Bool.{or_cases, or_parts, and_cases, and_right, eqb-true, false≢true}
use Rattle.std.specs.Char.{is_digit}
use Rattle.pp_lexer.specs.Longest.{longest, front_len}
use Rattle.pp_lexer.specs.Spellings.{nothing, one, many, optional}
use Rattle.pp_lexer.specs.Surroundings.{begins_with}
use Rattle.pp_lexer.specs.Numbers.{is_zero, is_x, is_point, is_e, is_sign, is_decimal, is_hex, digits, exponent, fraction, decimal_tail, is_number, begins_number}
use Rattle.pp_lexer.specs.inner.Numbers.{signed_digits, hex_tail}
use Rattle.pp_lexer.proofs.words.LongestLemmas.{within_same, longest_same, longest_none, longest_step, longest_step_some, longest-many, many_pass, longest-maybe_pass, longest-maybe_stop, longest-optional_pass, longest-optional_stop}

-- neither of the two characters is a digit
pub either_apart : (a b radix : ℕ) → is_digit a radix ≡ false → is_digit b radix ≡ false → (c : ℕ) → is_digit c radix ≡ true → ((c == a) || (c == b)) ≡ false
either_apart a b radix na nb c h = grind (arith, eqb-true, false≢true)

one_apart : (a radix : ℕ) → is_digit a radix ≡ false → (c : ℕ) → is_digit c radix ≡ true → (c == a) ≡ false
one_apart a radix na c h = grind arith

pub small_e_apart : (c : ℕ) → is_decimal c ≡ true → (c == 101) ≡ false
small_e_apart = one_apart 101 10 refl

pub e_apart : (c : ℕ) → is_decimal c ≡ true → is_e c ≡ false
e_apart = either_apart 101 69 10 refl refl

pub point_apart : (c : ℕ) → is_decimal c ≡ true → is_point c ≡ false
point_apart = one_apart 46 10 refl

pub hex_point_apart : (c : ℕ) → is_hex c ≡ true → is_point c ≡ false
hex_point_apart = one_apart 46 16 refl

zero_digit : (c : ℕ) → is_decimal c ≡ false → is_zero c ≡ false
zero_digit c h = grind arith

pub exponent_apart : (c : ℕ) (w : List ℕ) → is_decimal c ≡ true → exponent (c ∷ w) ≡ false
exponent_apart c w h = rw (e_apart c h) refl

hex_tail_apart : (c : ℕ) (w : List ℕ) → is_hex c ≡ true → hex_tail (c ∷ w) ≡ false
hex_tail_apart c w h = rw (hex_point_apart c h) refl

pub decimal_tail_apart : (c : ℕ) (w : List ℕ) → is_decimal c ≡ true → decimal_tail (c ∷ w) ≡ false
decimal_tail_apart c w h = rw (e_apart c h, point_apart c h) refl

pub sign_apart : (c : ℕ) (w : List ℕ) → is_sign c ≡ true → digits (c ∷ w) ≡ false
sign_apart c w h = grind arith

pub fraction_len : (t : List ℕ) → longest fraction t ≡ front_len is_decimal t + longest exponent (drop (front_len is_decimal t) t)
fraction_len = longest-many is_decimal exponent refl exponent_apart

pub hex_len : (t : List ℕ) → longest (many is_hex hex_tail) t ≡ front_len is_hex t + longest hex_tail (drop (front_len is_hex t) t)
hex_len = longest-many is_hex hex_tail refl hex_tail_apart

pub decimal_len : (t : List ℕ) → longest (many is_decimal decimal_tail) t ≡ front_len is_decimal t + longest decimal_tail (drop (front_len is_decimal t) t)
decimal_len = longest-many is_decimal decimal_tail refl decimal_tail_apart

pub signed_len : (t : List ℕ) → longest signed_digits t ≡ (if begins_with is_sign t then 1 else 0) + longest digits
    (drop (if begins_with is_sign t then 1 else 0) t)
unfolding longest
signed_len [] = refl
signed_len (c ∷ t) = by (is_sign c) refl
  where
    by : (b : Bool) → is_sign c ≡ b → longest signed_digits (c ∷ t) ≡ (if is_sign c then 1 else 0) + longest digits (drop (if is_sign c then 1 else 0) (c ∷ t))
    by true e =
        let s : longest signed_digits (c ∷ t) ≡ suc (longest digits t) = longest-maybe_pass is_sign digits refl sign_apart c t e in
        let one : suc (longest digits t) ≡ 1 + longest digits (drop 1 (c ∷ t)) = omega arith in
        s ∙ one ∙ ap (λ b. (if b then 1 else 0) + longest digits (drop (if b then 1 else 0) (c ∷ t))) (sym e)
    by false e =
        let s : longest signed_digits (c ∷ t) ≡ longest digits (c ∷ t) = longest-maybe_stop is_sign digits refl sign_apart c t e in
        s ∙ sym (zero-add (longest digits (c ∷ t))) ∙ ap (λ b. (if b then 1 else 0) + longest digits (drop (if b then 1 else 0) (c ∷ t))) (sym e)

-- an optional segment that begins with one character
module _ (p : ℕ → Bool) (tail : List ℕ → Bool) (ends : tail [] ≡ true) where
  optional_len : (t : List ℕ) → begins_with p t ≡ true → longest (optional (one p tail)) t ≡ 1 + longest tail (drop 1 t)
  optional_len [] h = cc
  optional_len (c ∷ t) h =
      let s : longest (optional (one p tail)) (c ∷ t) ≡ suc (longest tail t) = longest-optional_pass p tail ends c t h in
      let one : suc (longest tail t) ≡ 1 + longest tail (drop 1 (c ∷ t)) = omega arith in
      s ∙ one

  optional_none : (t : List ℕ) → begins_with p t ≡ false → longest (optional (one p tail)) t ≡ 0
  unfolding longest
  optional_none [] h = refl
  optional_none (c ∷ t) h = longest-optional_stop p tail ends c t h

pub exponent_len : (t : List ℕ) → begins_with is_e t ≡ true → longest exponent t ≡ 1 + longest signed_digits (drop 1 t)
exponent_len = optional_len is_e signed_digits refl

pub exponent_none : (t : List ℕ) → begins_with is_e t ≡ false → longest exponent t ≡ 0
exponent_none = optional_none is_e signed_digits refl

pub hex_tail_len : (t : List ℕ) → begins_with is_point t ≡ true → longest hex_tail t ≡ 1 + longest fraction (drop 1 t)
hex_tail_len = optional_len is_point fraction refl

pub hex_tail_none : (t : List ℕ) → begins_with is_point t ≡ false → longest hex_tail t ≡ 0
hex_tail_none = optional_none is_point fraction refl

pub decimal_tail_len : (t : List ℕ) → begins_with is_point t ≡ true → longest decimal_tail t ≡ 1 + longest fraction (drop 1 t)
decimal_tail_len t h = grind (arith, longest_step)

pub decimal_tail_none : (t : List ℕ) → begins_with is_point t ≡ false → longest decimal_tail t ≡ longest exponent t
unfolding longest
decimal_tail_none [] h = refl
decimal_tail_none (c ∷ t) h = longest_same decimal_tail exponent c t (λ w. rw h (or-false (exponent (c ∷ w))))

-- a point and a digit
pub point_number_len : (t : List ℕ) → begins_number t ≡ true → begins_with is_point t ≡ true → longest is_number t ≡ 1 + longest fraction (drop 1 t)
unfolding longest is_number
point_number_len [] b h = cc
point_number_len (c ∷ []) b h = let k : c ≡ 46 = eqb-true c 46 h in let b' = rw k at b in absurd (false≢true b')
point_number_len (c ∷ d ∷ t) b h =
    let k : c ≡ 46 = eqb-true c 46 h in
    let dd : is_decimal d ≡ true = rw k at b in
    let q : (w : List ℕ) → one is_decimal fraction (d ∷ w) ≡ fraction (d ∷ w) = λ w. rw (dd, e_apart d dd) refl in
    let l : longest (one is_decimal fraction) (d ∷ t) ≡ longest fraction (d ∷ t) = longest_same (one is_decimal fraction) fraction d t q in
    let f : longest fraction (d ∷ t) ≡ suc (longest fraction t) =
    longest_step fraction fraction d t (many_pass is_decimal exponent refl exponent_apart d [] dd)
    (λ w. many_pass is_decimal exponent refl exponent_apart d w dd) in
    let some : 0 < longest (one is_decimal fraction) (d ∷ t) = omega (arith, l, f) in
    let s : longest is_number (46 ∷ d ∷ t) ≡ suc (longest (one is_decimal fraction) (d ∷ t)) =
    longest_step_some is_number (one is_decimal fraction) 46 (d ∷ t) some (λ w. refl) in
    let one : suc (longest fraction (d ∷ t)) ≡ 1 + longest fraction (drop 1 (c ∷ d ∷ t)) = omega arith in
    ap (λ n. longest is_number (n ∷ d ∷ t)) k ∙ s ∙ ap suc l ∙ one

decimal_digit_number : (c : ℕ) (w : List ℕ) → is_decimal c ≡ true → is_zero c ≡ false → is_number (c ∷ w) ≡ many is_decimal decimal_tail (c ∷ w)
unfolding longest is_number
decimal_digit_number c w d z = grind (arith, point_apart, or-false, decimal_tail_apart)

-- a digit other than `0`
pub digit_number_len : (t : List ℕ) → begins_number t ≡ true → begins_with is_point t ≡ false → begins_with is_zero t ≡ false
    → longest is_number t ≡ longest (many is_decimal decimal_tail) t
unfolding longest is_number
digit_number_len [] b p z = refl
digit_number_len (c ∷ t) b p z =
    let d : is_decimal c ≡ true = sym (or-false (is_decimal c)) ∙ (rw p at b) in
    longest_same is_number (many is_decimal decimal_tail) c t (λ w. decimal_digit_number c w d z)

zero_front : (t : List ℕ) → begins_with is_x t ≡ false → (k : ℕ) → is_number (48 ∷ take k t) ≡ many is_decimal decimal_tail (take k t)
unfolding longest is_number
zero_front [] x zero = refl
zero_front [] x (suc k) = refl
zero_front (c ∷ t) x zero = refl
zero_front (c ∷ t) x (suc k) = rw x (or-false (many is_decimal decimal_tail (c ∷ take k t)))

-- what may stand after a first `0`
abbrev pub after_zero : List ℕ → Bool
after_zero w = is_number (48 ∷ w)

pub zero_number_len : (t : List ℕ) → begins_with is_zero t ≡ true → longest is_number t ≡ 1 + longest after_zero (drop 1 t)
unfolding longest is_number
zero_number_len [] z = cc
zero_number_len (c ∷ t) z =
    let k : c ≡ 48 = eqb-true c 48 z in
    let s : longest is_number (48 ∷ t) ≡ suc (longest after_zero t) = longest_step is_number after_zero 48 t refl (λ w. refl) in
    let one : suc (longest after_zero t) ≡ 1 + longest after_zero (drop 1 (c ∷ t)) = omega arith in
    ap (λ n. longest is_number (n ∷ t)) k ∙ s ∙ one

pub after_zero_digits : (t : List ℕ) → begins_with is_x t ≡ false → longest after_zero t ≡ longest (many is_decimal decimal_tail) t
unfolding longest is_number
after_zero_digits t x = within_same after_zero (many is_decimal decimal_tail) t t (λ k. zero_front t x (suc k)) (length t)

hex_front : (c : ℕ) (w : List ℕ) → is_x c ≡ true → after_zero (c ∷ w) ≡ many is_hex hex_tail w
unfolding longest is_number
hex_front c w x =
    elim (or_cases (c == 120) (c == 88) x) [
      | inl e ↦ rw (eqb-true c 120 e) (or-false (many is_hex hex_tail w))
      | inr e ↦ rw (eqb-true c 88 e) (or-false (many is_hex hex_tail w))
    ]

pub after_zero_hex : (t : List ℕ) → begins_with is_x t ≡ true → longest after_zero t ≡ 1 + longest (many is_hex hex_tail) (drop 1 t)
after_zero_hex t h = grind (arith, longest_step, hex_front)

-- no number begins here
pub no_number_front : (c : ℕ) (t : List ℕ) → begins_number (c ∷ t) ≡ false → (k : ℕ) → is_number (c ∷ take k t) ≡ false
unfolding longest is_number
no_number_front c t b k = by t k (or_parts (is_decimal c) (is_point c && begins_with is_decimal t) b).1
  where
    d : is_decimal c ≡ false
    d = (or_parts (is_decimal c) (is_point c && begins_with is_decimal t) b).0

    z : is_zero c ≡ false
    z = zero_digit c d

    by : (t : List ℕ) (k : ℕ) → (is_point c && begins_with is_decimal t) ≡ false → is_number (c ∷ take k t) ≡ false
    by [] zero h = rw (z, d) (and_right (is_point c) false refl)
    by [] (suc k) h = rw (z, d) (and_right (is_point c) false refl)
    by (e ∷ t) zero h = rw (z, d) (and_right (is_point c) false refl)
    by (e ∷ t) (suc k) h =
        elim (and_cases (is_point c) (is_decimal e) h) [
          | inl p ↦ rw (z, d, p) refl
          | inr p ↦ rw (z, d, p) (and_right (is_point c) false refl)
        ]

pub no_number_len : (t : List ℕ) → begins_number t ≡ false → longest is_number t ≡ 0
unfolding longest is_number
no_number_len [] b = refl
no_number_len (c ∷ t) b =
    within_same is_number nothing (c ∷ t) (c ∷ t) (λ k. no_number_front c t b k) (length (c ∷ t)) ∙ longest_none nothing c t (λ w. refl)
