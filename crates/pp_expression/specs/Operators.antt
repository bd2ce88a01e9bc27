-- The operators of an expression of `#if`, `#elif` or `#line`, and how tightly each binds: the table of operators of
-- GLSL ES 3.20 section 3.4, "Preprocessor". From tight to loose these are the unary ones `+ - ~ !`, then `* / %`,
-- `+ -`, `<< >>`, `< > <= >=`, `== !=`, `&`, `^`, `|`, `&&` and `||`. Operators between operands group from left to
-- right, those in front of one from right to left.
use Rattle.std.specs.Prelude.{ℕ, List, [], ◌∷◌, Option, option_map, unwrap_or}
use Rattle.std.specs.List.{find}
use Rattle.pp_lexer.specs.contracts.token.PunctPartialEq.TheImpl.{eq-value as punct_eq}
use Rattle.pp_lexer.specs.declared.token.Punct.{Punct}
use Rattle.pp_lexer.specs.declared.token.Punct.TheVariants as mark
use Rattle.pp_expression.specs.contracts.operator.UnaryPartialEq.TheImpl.{eq-value as unary_eq}
use Rattle.pp_expression.specs.contracts.operator.BinaryPartialEq.TheImpl.{eq-value as binary_eq}
use Rattle.pp_expression.specs.declared.operator.Unary.{Unary}
use Rattle.pp_expression.specs.declared.operator.Unary.TheVariants as unary
use Rattle.pp_expression.specs.declared.operator.Binary.{Binary}
use Rattle.pp_expression.specs.declared.operator.Binary.TheVariants as binary

-- the operators in front of an operand, each after its punctuator
abbrev pub unary_operators : List (Punct × Unary)
unary_operators =
    (mark.Plus, unary.Plus) ∷
    (mark.Minus, unary.Minus) ∷
    (mark.Bang, unary.Not) ∷
    (mark.Tilde, unary.Complement) ∷ []

-- The operators between operands, each after its punctuator and before how tightly it binds: from 0, the loosest level,
-- to 9. Level 10 is that of an operand.
abbrev pub binary_operators : List (Punct × Binary × ℕ)
binary_operators =
    (mark.Star, binary.Multiply, 9) ∷ (mark.Slash, binary.Divide, 9) ∷ (mark.Percent, binary.Remainder, 9) ∷
    (mark.Plus, binary.Add, 8) ∷ (mark.Minus, binary.Subtract, 8) ∷
    (mark.LeftShift, binary.ShiftLeft, 7) ∷ (mark.RightShift, binary.ShiftRight, 7) ∷
    (mark.LeftAngle, binary.Less, 6) ∷ (mark.RightAngle, binary.Greater, 6) ∷
    (mark.LessEqual, binary.LessEqual, 6) ∷ (mark.GreaterEqual, binary.GreaterEqual, 6) ∷
    (mark.EqualEqual, binary.Equal, 5) ∷ (mark.NotEqual, binary.NotEqual, 5) ∷
    (mark.Ampersand, binary.And, 4) ∷
    (mark.Caret, binary.Xor, 3) ∷
    (mark.Pipe, binary.Or, 2) ∷
    (mark.LogicalAnd, binary.LogicalAnd, 1) ∷
    (mark.LogicalOr, binary.LogicalOr, 0) ∷ []

-- the operator that a punctuator is if it is in front of an operand
abbrev pub unary_of : Punct → Option Unary
unary_of punct = option_map (λ row. row.1) (find (λ row. punct_eq.it row.0 punct) unary_operators)

-- the operator that a punctuator is if it is after an operand
abbrev pub binary_of : Punct → Option Binary
binary_of punct = option_map (λ row. row.1) (find (λ row. punct_eq.it row.0 punct) binary_operators)

-- the punctuator that an operator in front of an operand is written as: each has one
unfoldable pub unary_punct : Unary → Punct
unary_punct operator =
    unwrap_or (option_map (λ row. row.0) (find (λ row. unary_eq.it row.1 operator) unary_operators)) mark.Plus

-- the punctuator that an operator between operands is written as: each has one
unfoldable pub binary_punct : Binary → Punct
binary_punct operator =
    unwrap_or (option_map (λ row. row.0) (find (λ row. binary_eq.it row.1 operator) binary_operators)) mark.Plus

-- how tightly an operator between operands binds
unfoldable pub level_of : Binary → ℕ
level_of operator = unwrap_or (option_map (λ row. row.2) (find (λ row. binary_eq.it row.1 operator) binary_operators)) 0
