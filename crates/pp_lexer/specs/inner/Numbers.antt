-- Parts of the spellings of numbers, under names of their own.
use Rattle.std.specs.Prelude.{ℕ, Bool, List}
use Rattle.pp_lexer.specs.Numbers.{is_point, is_sign, is_decimal, digits, fraction, decimal_tail}
use Rattle.pp_lexer.specs.Spellings.{one, many, maybe, optional}

-- [+-]?D*
abbrev pub signed_digits : List ℕ → Bool
signed_digits = maybe is_sign digits

-- (.D*([eE][+-]?D*)?)?
abbrev pub hex_tail : List ℕ → Bool
hex_tail = optional (one is_point fraction)

-- D+(.D*)?([eE][+-]?D*)?
abbrev pub is_decimal_number : List ℕ → Bool
is_decimal_number = one is_decimal (many is_decimal decimal_tail)

-- .D+([eE][+-]?D*)?
abbrev pub is_point_number : List ℕ → Bool
is_point_number = one is_point (one is_decimal fraction)
