-- The spellings of numbers: GLSL ES 3.20, sections 4.1.3 and 4.1.4, and what the preprocessor also takes for a number.
use Rattle.std.specs.Prelude.{ℕ, Bool, ◌&&◌, ◌||◌, ◌==◌, List}
use Rattle.std.specs.Char.{is_digit}
use Rattle.pp_lexer.specs.Spellings.{nothing, one, many, maybe, optional, after_first}
use Rattle.pp_lexer.specs.Surroundings.{begins_with}

abbrev pub is_zero : ℕ → Bool
is_zero c = c == 48

abbrev pub is_x : ℕ → Bool
is_x c = (c == 120) || (c == 88)

abbrev pub is_point : ℕ → Bool
is_point c = c == 46

abbrev pub is_e : ℕ → Bool
is_e c = (c == 101) || (c == 69)

-- plus and minus
abbrev pub is_sign : ℕ → Bool
is_sign c = (c == 43) || (c == 45)

-- D: 0 to 9
abbrev pub is_decimal : ℕ → Bool
is_decimal c = is_digit c 10

-- H: 0 to 9, a to f and A to F
abbrev pub is_hex : ℕ → Bool
is_hex c = is_digit c 16

-- D*
abbrev pub digits : List ℕ → Bool
digits = many is_decimal nothing

-- ([eE][+-]?D*)?
abbrev pub exponent : List ℕ → Bool
exponent = optional (one is_e (maybe is_sign digits))

-- D*([eE][+-]?D*)?
abbrev pub fraction : List ℕ → Bool
fraction = many is_decimal exponent

-- (.D*)?([eE][+-]?D*)?
abbrev pub decimal_tail : List ℕ → Bool
decimal_tail cs = exponent cs || one is_point fraction cs

-- 0[xX]H*(.D*([eE][+-]?D*)?)?
abbrev pub is_hex_number : List ℕ → Bool
is_hex_number = one is_zero (one is_x (many is_hex (optional (one is_point fraction))))

-- a number of the `0x` form, D+(.D*)?([eE][+-]?D*)? or .D+([eE][+-]?D*)?
unfoldable pub is_number : List ℕ → Bool
is_number cs =
    is_hex_number cs || (one is_decimal (many is_decimal decimal_tail) cs || one is_point (one is_decimal fraction) cs)

-- a number begins here: a digit, or a point and then a digit
abbrev pub begins_number : List ℕ → Bool
begins_number cs = begins_with is_decimal cs || (begins_with is_point cs && begins_with is_decimal (after_first cs))
