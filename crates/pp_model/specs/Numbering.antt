-- The number that `__LINE__` becomes (GLSL ES 3.20, section 3.4, and docs/RULES.md, Expansion 2).
use Rattle.std.specs.Prelude.{ℕ, ℤ, pos, negsuc, ◌+ℤ◌, ◌^◌, ◌-◌, Bool, false, nat_lt, if◌then◌else◌, min}
use Rattle.std.specs.Prelude.{Option, Some, None, option_map}
use Rattle.pp_lexer.specs.declared.rules.Rules.{Rules}
use Rattle.pp_lexer.specs.declared.token.Integer.{Integer}
use Rattle.pp_model.specs.declared.numbering.Numbering.{Numbering}

-- a line number has 32 bits
abbrev pub as_line_number : ℤ → Option ℕ
as_line_number (pos n) = if nat_lt n (2 ^ 32) then Some n else None
as_line_number (negsuc n) = None

-- the number as an `int` or a `uint`
abbrev pub literal : Bool → ℕ → Integer
literal signed n = record { value = n; signed = signed; width = pos 32 }

-- the natural number next to this one that is no greater than the bound
abbrev pub nearest : ℕ → ℤ → ℕ
nearest most (pos n) = min n most
nearest most (negsuc n) = 0

-- The number of a line: what `#line` adds to it, or what is next to that in the range of the type.
abbrev pub number_of : Numbering → ℕ → Integer
number_of numbering line =
    literal numbering.is_signed
    (nearest ((if numbering.is_signed then 2 ^ 31 else 2 ^ 32) - 1) (pos line +ℤ numbering.offset))

-- How the lines of an argument or of a directive's line are numbered, if `#line` adds this to those of the text: by
-- GLSL's rules as `int`s. By pp-rs's rules nothing is added to them.
abbrev pub list_numbering : Rules → ℤ → Numbering
list_numbering rules offset =
    record { offset = if rules.numbers_as_int then offset else pos 0; is_signed = rules.numbers_as_int }

-- The number of a line of a text: by GLSL's rules the same, and by pp-rs's none if it is out of range.
abbrev pub text_number : Rules → ℤ → ℕ → Option Integer
text_number rules offset line =
    if rules.numbers_as_int then Some (number_of (list_numbering rules offset) line)
    else option_map (literal false) (as_line_number (pos line +ℤ offset))
