-- Trees of expressions, how they are written, and their values: the expressions of GLSL ES 3.20 section 3.4, which are
-- built from numbers and parentheses by the table of operators.
use Rattle.std.specs.Prelude.{ℕ, ◌+◌, ◌≤◌, List, [], ◌∷◌, ◌++◌, Result, Ok, IsOk, ℤ}
use Rattle.pp_lexer.specs.declared.token.Punct.TheVariants as mark
use Rattle.pp_expression.specs.Answers.{◌>>=◌}
use Rattle.pp_expression.specs.declared.operator.Unary.{Unary}
use Rattle.pp_expression.specs.declared.operator.Binary.{Binary}
use Rattle.pp_expression.specs.declared.symbol.Symbol.{Symbol}
use Rattle.pp_expression.specs.declared.symbol.Symbol.TheVariants as symbol
use Rattle.pp_expression.specs.declared.symbol.ExpressionFault.{ExpressionFault}
use Rattle.pp_expression.specs.Operators.{unary_punct, binary_punct, level_of}
use Rattle.pp_expression.specs.Arithmetic.{literal, unary_value, binary_value}

-- An expression: a number, an expression in parentheses, an operator in front of its operand, or one between its
-- operands. It keeps its parentheses, so it is written in one way.
pub data Tree : Type 0 where
  Number : ℕ → Tree
  Group : Tree → Tree
  Prefix : Unary → Tree → Tree
  Infix : Binary → Tree → Tree → Tree

-- the symbols that a tree is written as
abbrev pub spelling : Tree → List Symbol
spelling (Number number) = symbol.Number number ∷ []
spelling (Group tree) = symbol.Punct mark.LeftParen ∷ (spelling tree ++ (symbol.Punct mark.RightParen ∷ []))
spelling (Prefix operator operand) = symbol.Punct (unary_punct operator) ∷ spelling operand
spelling (Infix operator left right) = spelling left ++ (symbol.Punct (binary_punct operator) ∷ spelling right)

-- The tree may be an expression of the level: the operators between operands that are outside of its parentheses bind
-- at least as tightly as `level`. An expression in parentheses has level 0, and the operand of an operator in front
-- level 10. The left operand of an operator between operands has that operator's level, and the right one the next
-- tighter.
abbrev pub Fits : ℕ → Tree → Type 0
Fits level (Number number) = Unit {0}
Fits level (Group tree) = Fits 0 tree
Fits level (Prefix operator operand) = Fits 10 operand
Fits level (Infix operator left right) =
    (level ≤ level_of operator) × Fits (level_of operator) left × Fits ((level_of operator + 1)) right

-- the value of a tree, or the fault of one of its operators: the left operand's first,
-- then the right one's, then its own
abbrev pub value : Tree → Result ℤ ExpressionFault
value (Number number) = Ok (literal number)
value (Group tree) = value tree
value (Prefix operator operand) = value operand >>= unary_value operator
value (Infix operator left right) = value left >>= (λ first. value right >>= binary_value operator first)

-- no operator of the tree has a fault
abbrev pub HasValue : Tree → Type 0
HasValue tree = IsOk (value tree)
