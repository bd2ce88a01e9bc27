-- The characters of numbers, and that a float's text is a number.
use Rattle.std.proofs.Common.{◌≡◌, ℕ, Bool, false, ◌||◌, ◌==◌, [], ◌∷◌, arith, true}
use Rattle.std.proofs.lemmas.Bool.{or_left, false≢true}
use Rattle.pp_lexer.specs.Spellings.{nothing, one, many}
use Rattle.pp_lexer.specs.Numbers.{is_zero, is_x, is_point, is_e, is_sign, is_decimal, is_hex, digits, exponent, fraction, decimal_tail, is_hex_number, is_number}
use Rattle.pp_lexer.specs.inner.Numbers.{signed_digits, hex_tail, is_decimal_number, is_point_number}
use Rattle.pp_lexer.specs.NumberValue.{float_exponent, float_tail, is_float_text}
use Rattle.pp_lexer.specs.inner.NumberValue.{is_small_e, float_power}
use Rattle.pp_lexer.proofs.words.SetsLemmas.{Implies, IsPart, IsMadeOf, Lacks, is_other, missing, union_part, left_part, right_part, one_part, many_part, maybe_part, optional_part, made_nothing, made_one, made_many, made_maybe, made_optional}

-- the classes of characters that a number has
pub record HoldsNumbers (p : ℕ → Bool) : Type 0 where
  pub zero : Implies is_zero p
  pub x : Implies is_x p
  pub point : Implies is_point p
  pub mark : Implies is_e p
  pub sign : Implies is_sign p
  pub decimal : Implies is_decimal p
  pub hex : Implies is_hex p

module _ (p : ℕ → Bool) (h : HoldsNumbers p) where
  made_exponent : IsMadeOf p exponent
  made_exponent =
      made_optional p (one is_e signed_digits)
      (made_one p is_e signed_digits h.mark (made_maybe p is_sign digits h.sign (made_many p is_decimal nothing h.decimal (made_nothing p))))

  made_fraction : IsMadeOf p fraction
  made_fraction = made_many p is_decimal exponent h.decimal made_exponent

  made_pointed : IsMadeOf p (one is_point fraction)
  made_pointed = made_one p is_point fraction h.point made_fraction

  made_hex_number : IsMadeOf p is_hex_number
  made_hex_number =
      made_one p is_zero (one is_x (many is_hex hex_tail)) h.zero
      (made_one p is_x (many is_hex hex_tail) h.x (made_many p is_hex hex_tail h.hex (made_optional p (one is_point fraction) made_pointed)))

  made_decimal_number : IsMadeOf p is_decimal_number
  made_decimal_number =
      made_one p is_decimal (many is_decimal decimal_tail) h.decimal
      (made_many p is_decimal decimal_tail h.decimal (union_part exponent (one is_point fraction) _ made_exponent made_pointed))

  made_point_number : IsMadeOf p is_point_number
  made_point_number = made_one p is_point (one is_decimal fraction) h.point (made_one p is_decimal fraction h.decimal made_fraction)

  -- a number has only characters of these classes
  pub made_number : IsMadeOf p is_number
  unfolding is_number
  made_number = union_part is_hex_number (λ w. is_decimal_number w || is_point_number w) _ made_hex_number
      (union_part is_decimal_number is_point_number _ made_decimal_number made_point_number)

-- no number has a character that is in none of the classes
pub number_lacks : (k : ℕ) → is_zero k ≡ false → is_x k ≡ false → is_point k ≡ false → is_e k ≡ false → is_sign k ≡ false → is_decimal k ≡ false
    → is_hex k ≡ false → Lacks k is_number
number_lacks k a b c d e f g =
    made_number (is_other k) (record {
      zero = missing is_zero k a;
      x = missing is_x k b;
      point = missing is_point k c;
      mark = missing is_e k d;
      sign = missing is_sign k e;
      decimal = missing is_decimal k f;
      hex = missing is_hex k g;
    })

-- the characters of a float's text
module _ (p : ℕ → Bool) (decimal : Implies is_decimal p) (at_point : p 46 ≡ true) (at_mark : p 101 ≡ true) (at_plus : p 43 ≡ true) (at_minus : p 45 ≡ true) where
  point : Implies is_point p
  point c h = grind arith

  mark : Implies is_small_e p
  mark c h = grind arith

  sign : Implies is_sign p
  sign c h = grind arith

  made_float_exponent : IsMadeOf p float_exponent
  made_float_exponent =
      made_optional p (one is_small_e float_power)
      (made_one p is_small_e float_power mark (made_maybe p is_sign (one is_decimal digits) sign
      (made_one p is_decimal digits decimal (made_many p is_decimal nothing decimal (made_nothing p)))))

  made_float_fraction : IsMadeOf p (many is_decimal float_exponent)
  made_float_fraction = made_many p is_decimal float_exponent decimal made_float_exponent

  -- a float's text has only digits, points, small `e`s and signs
  pub made_float_text : IsMadeOf p is_float_text
  made_float_text =
      union_part (one is_decimal (many is_decimal float_tail)) (one is_point (one is_decimal (many is_decimal float_exponent))) _
      (made_one p is_decimal (many is_decimal float_tail) decimal
      (made_many p is_decimal float_tail decimal
      (union_part float_exponent (one is_point (many is_decimal float_exponent)) _ made_float_exponent
      (made_one p is_point (many is_decimal float_exponent) point made_float_fraction))))
      (made_one p is_point (one is_decimal (many is_decimal float_exponent)) point
      (made_one p is_decimal (many is_decimal float_exponent) decimal made_float_fraction))

-- a float's text is a number

small_e : Implies is_small_e is_e
small_e c e = or_left (c == 101) (c == 69) e

same : (p : ℕ → Bool) → Implies p p
same p c e = e

pub some_digits : IsPart (one is_decimal digits) digits
some_digits [] e = absurd (false≢true e)
some_digits (c ∷ w) e = e

power_part : IsPart float_power signed_digits
power_part = maybe_part is_sign is_sign (one is_decimal digits) digits (same is_sign) some_digits

exponent_part : IsPart float_exponent exponent
exponent_part = optional_part (one is_small_e float_power) (one is_e signed_digits) (one_part is_small_e is_e float_power signed_digits small_e power_part)

fraction_part : IsPart (many is_decimal float_exponent) fraction
fraction_part = many_part is_decimal is_decimal float_exponent exponent (same is_decimal) exponent_part

tail_part : IsPart float_tail decimal_tail
tail_part =
    union_part float_exponent (one is_point (many is_decimal float_exponent)) decimal_tail
    (left_part float_exponent exponent (one is_point fraction) exponent_part)
    (right_part (one is_point (many is_decimal float_exponent)) exponent (one is_point fraction)
    (one_part is_point is_point (many is_decimal float_exponent) fraction (same is_point) fraction_part))

digits_part : IsPart (one is_decimal (many is_decimal float_tail)) is_decimal_number
digits_part = grind (arith, many_part, tail_part)

point_part : IsPart (one is_point (one is_decimal (many is_decimal float_exponent))) is_point_number
point_part =
    one_part is_point is_point (one is_decimal (many is_decimal float_exponent)) (one is_decimal fraction) (same is_point)
    (one_part is_decimal is_decimal (many is_decimal float_exponent) fraction (same is_decimal) fraction_part)

-- a spelling without `0x` is a number's
pub decimal_number : IsPart is_decimal_number is_number
unfolding is_number
decimal_number = right_part is_decimal_number is_hex_number (λ w. is_decimal_number w || is_point_number w)
    (left_part is_decimal_number is_decimal_number is_point_number (λ w e. e))

-- a float's text is a number's spelling
pub float_text_number : IsPart is_float_text is_number
unfolding is_number
float_text_number =
    right_part is_float_text is_hex_number (λ w. is_decimal_number w || is_point_number w)
    (union_part (one is_decimal (many is_decimal float_tail)) (one is_point (one is_decimal (many is_decimal float_exponent)))
    (λ w. is_decimal_number w || is_point_number w)
    (left_part (one is_decimal (many is_decimal float_tail)) is_decimal_number is_point_number digits_part)
    (right_part (one is_point (one is_decimal (many is_decimal float_exponent))) is_decimal_number is_point_number point_part))
