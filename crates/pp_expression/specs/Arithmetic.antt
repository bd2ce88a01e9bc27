-- The value of one operator of an expression (GLSL ES 3.20 section 3.4). The operators work on integers of 64 bits,
-- from -2^63 to 2^63 - 1, whatever suffix a literal has: `/` rounds toward zero, `%` has the sign of its left operand,
-- `<<` drops high bits and `>>` keeps the sign. True is 1, false is 0, and every number but 0 counts as true. A result
-- outside of that range is a fault, and so are a division and a remainder by 0. Both operands of `&&` and `||` are
-- computed, whatever the first one is.
use Rattle.std.specs.Prelude.{ℕ, ◌^◌, Bool, not, ◌&&◌, ◌||◌, if◌then◌else◌, nat_lt, Result, Ok, Err, ℤ, pos, negsuc}
use Rattle.std.specs.Prelude.{◌+ℤ◌, ◌-ℤ◌, ◌*ℤ◌, neg_ℤ, int_div, int_rem, int_lt, int_le, bit_and, bit_or, bit_xor}
use Rattle.std.specs.Int.{w64, int_shl, int_shr, cast_signed, cast_unsigned}
use Rattle.std.specs.Ordering.{int_eq}
use Rattle.pp_expression.specs.Answers.{◌>>=◌}
use Rattle.pp_expression.specs.declared.operator.Unary.{Unary}
use Rattle.pp_expression.specs.declared.operator.Unary.TheVariants as unary
use Rattle.pp_expression.specs.declared.operator.Binary.{Binary}
use Rattle.pp_expression.specs.declared.operator.Binary.TheVariants as binary
use Rattle.pp_expression.specs.declared.symbol.ExpressionFault.{ExpressionFault}
use Rattle.pp_expression.specs.declared.symbol.ExpressionFault.TheVariants as fault

-- the value of a literal: one from 2^63 on counts as itself less 2^64
abbrev pub literal : ℕ → ℤ
literal number = if nat_lt number (2 ^ 63) then pos number else pos number -ℤ pos (2 ^ 64)

-- the number is from -2^63 to 2^63 - 1
abbrev pub fits : ℤ → Bool
fits (pos number) = nat_lt number (2 ^ 63)
fits (negsuc number) = nat_lt number (2 ^ 63)

-- the number if it fits, and otherwise an overflow
abbrev pub in_range : ℤ → Result ℤ ExpressionFault
in_range number = if fits number then Ok number else Err fault.IntegerOverflow

-- 1 for true and 0 for false
abbrev pub truth : Bool → ℤ
truth holds = if holds then pos 1 else pos 0

-- the number counts as false
abbrev pub is_zero : ℤ → Bool
is_zero number = int_eq number (pos 0)

-- the number whose 64 bits are those of left and right, each pair joined by join
abbrev pub bitwise : (ℕ → ℕ → ℕ) → ℤ → ℤ → ℤ
bitwise join left right = cast_signed w64 (join (cast_unsigned w64 left) (cast_unsigned w64 right))

-- the value of an operator in front of an operand
abbrev pub unary_value : Unary → ℤ → Result ℤ ExpressionFault
unary_value unary.Plus operand = Ok operand
unary_value unary.Minus operand = in_range (neg_ℤ operand)
unary_value unary.Not operand = Ok (truth (is_zero operand))
unary_value unary.Complement operand = Ok (neg_ℤ operand -ℤ pos 1)

-- by how many bits a shift goes: 0 to 63, and otherwise an overflow
abbrev pub shift_count : ℤ → Result ℕ ExpressionFault
shift_count (pos count) = if nat_lt count 64 then Ok count else Err fault.IntegerOverflow
shift_count (negsuc count) = Err fault.IntegerOverflow

-- The answer, which is a quotient or a remainder of left by right, if the quotient fits, and otherwise an overflow. If
-- right is 0, it is the fault `by_zero`.
abbrev pub divided : ExpressionFault → ℤ → ℤ → ℤ → Result ℤ ExpressionFault
divided by_zero left right answer =
    if is_zero right then Err by_zero else
    (if fits (int_div left right) then Ok answer else Err fault.IntegerOverflow)

-- The value of an operator between its operands. A quotient is rounded toward 0, and a remainder has the sign of its
-- dividend. `<<` drops the high bits, and `>>` keeps the sign.
abbrev pub binary_value : Binary → ℤ → ℤ → Result ℤ ExpressionFault
binary_value binary.Multiply left right = in_range (left *ℤ right)
binary_value binary.Divide left right = divided fault.DivisionByZero left right (int_div left right)
binary_value binary.Remainder left right = divided fault.RemainderByZero left right (int_rem left right)
binary_value binary.Add left right = in_range (left +ℤ right)
binary_value binary.Subtract left right = in_range (left -ℤ right)
binary_value binary.ShiftLeft left right = shift_count right >>= λ count. Ok (int_shl w64 left count)
binary_value binary.ShiftRight left right = shift_count right >>= λ count. Ok (int_shr left count)
binary_value binary.Less left right = Ok (truth (int_lt left right))
binary_value binary.Greater left right = Ok (truth (int_lt right left))
binary_value binary.LessEqual left right = Ok (truth (int_le left right))
binary_value binary.GreaterEqual left right = Ok (truth (int_le right left))
binary_value binary.Equal left right = Ok (truth (int_eq left right))
binary_value binary.NotEqual left right = Ok (truth (not (int_eq left right)))
binary_value binary.And left right = Ok (bitwise bit_and left right)
binary_value binary.Xor left right = Ok (bitwise bit_xor left right)
binary_value binary.Or left right = Ok (bitwise bit_or left right)
binary_value binary.LogicalAnd left right = Ok (truth (not (is_zero left) && not (is_zero right)))
binary_value binary.LogicalOr left right = Ok (truth (not (is_zero left) || not (is_zero right)))
