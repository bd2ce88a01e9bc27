use Rattle.glslpp_parts.proofs.words.+is_decimal.Given as goal

-- each digit is one less
abbrev pub decreases-is_decimal : goal.decreases-is_decimal
decreases-is_decimal l = l.number
