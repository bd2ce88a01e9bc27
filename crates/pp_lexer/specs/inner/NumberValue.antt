-- Parts of the value of a number, under names of their own.
use Rattle.std.specs.Prelude.{ℕ, ℤ, ◌^◌, List, Option, Some, None, Err, Bool, not, ◌||◌, ◌&&◌, ◌==◌, nat_lt}
use Rattle.std.specs.Prelude.{if◌then◌else◌, option_map, ok_or}
use Rattle.std.specs.List.{list_all}
use Rattle.std.specs.Char.{is_digit}
use Rattle.std.specs.Str.Parse.{digits_value_after}
use Rattle.std.specs.Option.{option_map_or}
use Rattle.pp_lexer.specs.declared.token.PreprocessorError.{PreprocessorError}
use Rattle.pp_lexer.specs.Outcome.{Answer}
use Rattle.pp_lexer.specs.Numbers.{is_point, is_e, is_sign, is_decimal, digits}
use Rattle.pp_lexer.specs.Spellings.{one, maybe}
use Rattle.pp_lexer.specs.declared.lexer.item.TokenValue.TheVariants.{Integer}
use Rattle.pp_lexer.specs.declared.token.PreprocessorError.TheVariants.{IntegerOverflow}

abbrev pub unless_refused : Option PreprocessorError → Answer → Answer
unless_refused refusal answer = option_map_or Err refusal answer

abbrev pub is_small_e : ℕ → Bool
is_small_e c = c == 101

abbrev pub is_float_mark : Bool → ℕ → Bool
is_float_mark hex c = is_point c || (not hex && is_e c)

abbrev pub integer_of : Bool → ℤ → Option ℕ → Answer
integer_of signed width n =
    ok_or (option_map (λ n. Integer (record { value = n; signed = signed; width = width })) n) IntegerOverflow

abbrev pub small_e : ℕ → ℕ
small_e c = if is_e c then 101 else c

-- [+-]?D+
abbrev pub float_power : List ℕ → Bool
float_power = maybe is_sign (one is_decimal digits)

-- the number that the digits write after those of n, if all are digits of the base and it is below 2^64
abbrev pub whole_after : ℕ → ℕ → List ℕ → Option ℕ
whole_after base n ds =
    if list_all (λ c. is_digit c base) ds && nat_lt (digits_value_after base n ds) (2 ^ 64)
    then Some (digits_value_after base n ds)
    else None
