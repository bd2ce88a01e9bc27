-- The value of a number, by its spelling and the characters after it: GLSL ES 3.20, sections 4.1.3 and 4.1.4. What the
-- language's types can't hold is an error, and so is a literal of 64 or of 16 bits, unless the rules take these widths.
use Rattle.std.specs.Prelude.{ℕ, ℤ, ◌+◌, ◌^◌, pos, Bool, not, ◌&&◌, ◌||◌, ◌==◌, nat_eq, nat_lt, if◌then◌else◌}
use Rattle.std.specs.Prelude.{List, [], ◌∷◌, Option, Some, None, Ok, Err, codes, length, take, drop, map, filter}
use Rattle.std.specs.Prelude.{ok_or, option_map}
use Rattle.std.specs.List.{list_all, list_any}
use Rattle.std.specs.Char.{is_digit}
use Rattle.std.specs.Str.Parse.{digits_value_after}
use Rattle.std.specs.Option.{option_map_or}
use lib.Pointwise.{pointwise}
use Rattle.pp_lexer.specs.declared.token.PreprocessorError.{PreprocessorError}
use Rattle.pp_lexer.specs.declared.token.PreprocessorError.TheVariants.{NotSupported64BitLiteral}
use Rattle.pp_lexer.specs.declared.token.PreprocessorError.TheVariants.{NotSupported16BitLiteral, IntegerOverflow}
use Rattle.pp_lexer.specs.declared.token.PreprocessorError.TheVariants.{FloatParsingError}
use Rattle.pp_lexer.specs.declared.lexer.item.TokenValue.TheVariants.{Integer, Float}
use Rattle.pp_lexer.specs.declared.lexer.number.Suffix.{Suffix}
use Rattle.pp_lexer.specs.declared.rules.Rules.{Rules}
use Rattle.pp_lexer.specs.Longest.{longest}
use Rattle.pp_lexer.specs.Numbers.{is_zero, is_x, is_point, is_e, is_sign, is_decimal, digits, is_number}
use Rattle.pp_lexer.specs.Outcome.{Answer, Outcome}
use Rattle.pp_lexer.specs.Spellings.{one, many, maybe, optional, after_first}
use Rattle.pp_lexer.specs.Surroundings.{begins_with}

-- the suffix letters, each also as a capital
abbrev pub is_l : ℕ → Bool
is_l c = (c == 108) || (c == 76)

abbrev pub is_h : ℕ → Bool
is_h c = (c == 104) || (c == 72)

abbrev pub is_f : ℕ → Bool
is_f c = (c == 102) || (c == 70)

abbrev pub is_u : ℕ → Bool
is_u c = (c == 117) || (c == 85)

abbrev pub is_s : ℕ → Bool
is_s c = (c == 115) || (c == 83)

-- Where widths aren't taken, the error of a letter for one: `l` for 64 bits, another for 16. The letter is never taken.
abbrev pub width_refusal : Rules → (ℕ → Bool) → List ℕ → Option PreprocessorError
width_refusal rules is_short after =
    if rules.takes_widths then None
    else if begins_with is_l after then Some NotSupported64BitLiteral
    else if begins_with is_short after then Some NotSupported16BitLiteral
    else None

-- the suffix of 32 bits: one letter if it is here, and none otherwise
abbrev pub usual_suffix : (ℕ → Bool) → List ℕ → Suffix
usual_suffix is_suffix after = record { taken = if begins_with is_suffix after then 1 else 0; width = pos 32 }

-- the characters begin with these
abbrev pub begins_as : List ℕ → List ℕ → Bool
begins_as w cs = pointwise nat_eq (take (length w) cs) w

-- the rules take the suffixes of widths, and this one is here, small or in capitals
abbrev pub has_suffix : Rules → List ℕ → List ℕ → List ℕ → Bool
has_suffix rules small capital after = rules.takes_widths && (begins_as small after || begins_as capital after)

-- the spelling begins with `0x`
abbrev pub begins_hex : List ℕ → Bool
begins_hex w = begins_with is_zero w && begins_with is_x (after_first w)

-- a digit follows a leading `0`
abbrev pub begins_octal : List ℕ → Bool
begins_octal w = begins_with is_zero w && begins_with is_decimal (after_first w)

-- there is a point, or outside of the `0x` form the `e` of an exponent
abbrev pub is_float : List ℕ → Bool
is_float w = list_any (λ c. is_point c || (not (begins_hex w) && is_e c)) w

-- Floats

-- the number without `x` and `X`, and with each `E` as `e`
abbrev pub float_text : List ℕ → List ℕ
float_text w = map (λ c. if is_e c then 101 else c) (filter (λ c. not (is_x c)) w)

-- (e[+-]?D+)?
abbrev pub float_exponent : List ℕ → Bool
float_exponent = optional (one (λ c. c == 101) (maybe is_sign (one is_decimal digits)))

-- (.D*)?(e[+-]?D+)?
abbrev pub float_tail : List ℕ → Bool
float_tail cs = float_exponent cs || one is_point (many is_decimal float_exponent) cs

-- D+(.D*)?(e[+-]?D+)? or .D+(e[+-]?D+)?
abbrev pub is_float_text : List ℕ → Bool
is_float_text cs =
    one is_decimal (many is_decimal float_tail) cs || one is_point (one is_decimal (many is_decimal float_exponent)) cs

abbrev pub float_value : ℤ → List ℕ → Answer
float_value width w =
    if is_float_text (float_text w) then Ok (Float (record { text = float_text w; width = width }))
    else Err FloatParsingError

-- the suffix of a float: `lf` for 64 bits, `hf` for 16, or `f`
abbrev pub float_suffix : Rules → List ℕ → Suffix
float_suffix rules after =
    if has_suffix rules (codes "lf") (codes "LF") after then record { taken = 2; width = pos 64 }
    else if has_suffix rules (codes "hf") (codes "HF") after then record { taken = 2; width = pos 16 }
    else usual_suffix is_f after

-- the suffix of a float is taken; the letter of a width that isn't is reported before any fault of the value
abbrev pub float_outcome : Rules → List ℕ → List ℕ → Outcome
float_outcome rules w after = record {
  value = option_map_or Err (width_refusal rules is_h after) (float_value (float_suffix rules after).width w);
  taken = length w + (float_suffix rules after).taken;
}

-- Integers

abbrev pub base_of : List ℕ → ℕ
base_of w = if begins_hex w then 16 else if begins_octal w then 8 else 10

-- the characters that have to be digits of the base
abbrev pub digits_of : List ℕ → List ℕ
digits_of w = if begins_hex w then drop 2 w else w

-- the number that these write, if there is at least one, all are digits of the base, and it is below 2^64
abbrev pub whole : ℕ → List ℕ → Option ℕ
whole base [] = None
whole base (c ∷ cs) =
    if list_all (λ d. is_digit d base) (c ∷ cs) && nat_lt (digits_value_after base 0 (c ∷ cs)) (2 ^ 64)
    then Some (digits_value_after base 0 (c ∷ cs))
    else None

abbrev pub integer_value : Bool → ℤ → List ℕ → Answer
integer_value signed width w =
    ok_or
    (option_map (λ n. Integer (record { value = n; signed = signed; width = width }))
    (whole (base_of w) (digits_of w)))
    IntegerOverflow

-- the suffix of an integer: `l` for 64 bits, `s` for 16, each also after a `u`, or `u` alone
abbrev pub integer_suffix : Rules → List ℕ → Suffix
integer_suffix rules after =
    if has_suffix rules (codes "l") (codes "L") after then record { taken = 1; width = pos 64 }
    else if has_suffix rules (codes "ul") (codes "UL") after then record { taken = 2; width = pos 64 }
    else if has_suffix rules (codes "s") (codes "S") after then record { taken = 1; width = pos 16 }
    else if has_suffix rules (codes "us") (codes "US") after then record { taken = 2; width = pos 16 }
    else usual_suffix is_u after

-- the suffix of an integer is taken, and one that begins with a `u` makes it unsigned
abbrev pub integer_outcome : Rules → List ℕ → List ℕ → Outcome
integer_outcome rules w after = record {
  value =
      option_map_or Err (width_refusal rules is_s (drop (integer_suffix rules after).taken after))
      (integer_value (not (begins_with is_u after)) (integer_suffix rules after).width w);
  taken = length w + (integer_suffix rules after).taken;
}

abbrev pub number_outcome : Rules → List ℕ → List ℕ → Outcome
number_outcome rules w after = if is_float w then float_outcome rules w after else integer_outcome rules w after

-- the outcome of the longest number here, by the characters after it
unfoldable pub number_at : Rules → List ℕ → Outcome
number_at rules cs = number_outcome rules (take (longest is_number cs) cs) (drop (longest is_number cs) cs)
