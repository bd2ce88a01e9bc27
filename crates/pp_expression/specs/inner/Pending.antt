-- What the evaluator's own functions promise each other of what is pending: open parentheses, and operators whose right
-- operand is still to come. What is promised to callers is in FirstFault.
use Rattle.std.specs.Prelude.{◌≡◌, ℕ, ◌+◌, ◌≤◌, nat_lt, if◌then◌else◌, List, [], ◌∷◌, length, Option, Some, None}
use Rattle.std.specs.Prelude.{Result, Ok, ℤ}
use Rattle.pp_lexer.specs.declared.token.Punct.TheVariants as mark
use Rattle.pp_expression.specs.declared.operator.Binary.{Binary}
use Rattle.pp_expression.specs.declared.pending.Operator.{Operator}
use Rattle.pp_expression.specs.declared.pending.Operator.TheVariants as operator
use Rattle.pp_expression.specs.declared.pending.Pending.{Pending}
use Rattle.pp_expression.specs.declared.pending.Pending.TheVariants as pending
use Rattle.pp_expression.specs.declared.symbol.Symbol.TheVariants as symbol
use Rattle.pp_expression.specs.declared.symbol.ExpressionFault.{ExpressionFault}
use Rattle.pp_expression.specs.Operators.{level_of}
use Rattle.pp_expression.specs.Arithmetic.{unary_value, binary_value}
use Rattle.pp_expression.specs.Lines.{Line, next, Reads}
use Rattle.pp_expression.specs.inner.Parsing.{after_next, binary_at, sign_at}

-- how tightly an operator binds, 10 in front of its operand
abbrev pub operator_level : Operator → ℕ
operator_level (operator.Prefix unary) = 10
operator_level (operator.Infix binary left) = level_of binary

-- the value of an operator with its right operand
abbrev pub operation : Operator → ℤ → Result ℤ ExpressionFault
operation (operator.Prefix unary) right = unary_value unary right
operation (operator.Infix binary left) right = binary_value binary left right

-- the number of symbols from the one at which an operator is computed to the end, if the line is what comes after its
-- right operand
abbrev pub computed_at : Operator → Line → ℕ
computed_at op line = if nat_lt (operator_level op) 9 then length line.symbols else length line.symbols + 1

-- the innermost of what is pending
abbrev pub innermost : List Pending → Option Pending
innermost [] = None
innermost (inner ∷ outer) = Some inner

-- all but the innermost
abbrev pub outer : List Pending → List Pending
outer [] = []
outer (inner ∷ around) = around

-- the level of an operator's right operand
abbrev pub right_level : Operator → ℕ
right_level (operator.Prefix unary) = 10
right_level (operator.Infix binary left) = level_of binary + 1

-- the level of the operand that is expected within what is pending
abbrev pub wanted_in : List Pending → ℕ
wanted_in [] = 0
wanted_in (pending.Group ∷ around) = 0
wanted_in (pending.Operator op ∷ around) = right_level op

-- no operator that binds at least as tightly as the level waits for the operand, and nothing was taken
pub record IsLoose (level : ℕ) (old new : List Pending) : Type 0 where
  pub loose : wanted_in old ≤ level
  pub same : new ≡ old

-- the operator was the innermost of what is pending, and binds at least as tightly as the level
pub record IsTaken (level : ℕ) (op : Operator) (old new : List Pending) : Type 0 where
  pub taken : old ≡ pending.Operator op ∷ new
  pub tight : level ≤ operator_level op

-- An expression of the level is expected at the front of the line `around`. It begins with a left operand of this value
-- and its operator, and the right operand is expected at the front of the inner line.
pub record IsRightOf (level : ℕ) (binary : Binary) (left : ℤ) (around inner : Line) : Type 0 where
  pub from_operator : Line
  pub binds : level ≤ level_of binary
  pub reads : Reads (level_of binary) (level_of binary + 1) around from_operator left
  pub stands : binary_at from_operator ≡ Ok (Some binary)
  pub after : inner ≡ after_next from_operator

-- An expression of the level is expected at the front of the line `around`. It begins with what is pending, and what is
-- within that is expected at the front of the inner line.
abbrev pub Enters : ℕ → Pending → Line → Line → Type 0
Enters level pending.Group around inner =
    (next around ≡ Ok (Some (symbol.Punct mark.LeftParen))) × (inner ≡ after_next around)
Enters level (pending.Operator (operator.Prefix unary)) around inner =
    (sign_at around ≡ Ok (Some unary)) × (inner ≡ after_next around)
Enters level (pending.Operator (operator.Infix binary left)) around inner = IsRightOf level binary left around inner

-- The whole line was read up to the line, at whose front an operand is expected within what is pending.
abbrev pub Awaits : Line → List Pending → Line → Type 0
Awaits whole [] line = line ≡ whole
Awaits whole (inner ∷ around) line =
    (start : Line) × Awaits whole around start × Enters (wanted_in around) inner start line

-- The whole line was read up to the line. An operand was expected within what is pending, and one of this value was
-- read: its operators bind at least as tightly as the level, and no operator after it binds tighter than those.
pub record HasOperand (level : ℕ) (whole : Line) (pending : List Pending) (line : Line) (number : ℤ) : Type 0 where
  -- where the operand begins
  pub start : Line
  pub awaits : Awaits whole pending start
  -- its own level
  pub binding : ℕ
  pub wanted : wanted_in pending ≤ binding
  pub tight : level ≤ binding
  pub reads : Reads binding (binding + 1) start line number
