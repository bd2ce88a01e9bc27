-- What the evaluator's own functions promise each other: steps along a line, and an answer or a fault seen from within.
-- What is promised to callers is in FirstFault.
use Rattle.std.specs.Prelude.{ℕ, drop, ⊤, Option, Some, None, Result, Ok, Err}
use Rattle.pp_expression.specs.declared.operator.Unary.{Unary}
use Rattle.pp_expression.specs.declared.operator.Binary.{Binary}
use Rattle.pp_expression.specs.declared.symbol.Symbol.{Symbol}
use Rattle.pp_expression.specs.declared.symbol.Symbol.TheVariants as symbol
use Rattle.pp_expression.specs.declared.symbol.ExpressionFault.{ExpressionFault}
use Rattle.pp_expression.specs.declared.symbol.Found.{Found}
use Rattle.pp_expression.specs.Operators.{binary_of}
use Rattle.pp_expression.specs.Trees.{HasValue}
use Rattle.pp_expression.specs.Answers.{◌>>=◌}
use Rattle.pp_expression.specs.Lines.{Line, next}
use Rattle.pp_expression.specs.FirstFault.{sign_of, atom_of, closing, Front, Here, InGroup, InPrefix, InInfix, Fails}
use Rattle.pp_expression.specs.FirstFault.{unread_after, unclosed, Possible}

-- the line without its next symbol
abbrev pub after_next : Line → Line
after_next line = record { symbols = drop 1 line.symbols; ending = line.ending }

-- the operator between operands that a symbol is
abbrev pub binary_sign_of : Option Symbol → Option Binary
binary_sign_of (Some (symbol.Punct punct)) = binary_of punct
binary_sign_of (Some (symbol.Number number)) = None
binary_sign_of (Some symbol.Fault) = None
binary_sign_of (Some symbol.Other) = None
binary_sign_of None = None

-- the operator between operands that comes next, if one does
abbrev pub binary_at : Line → Result (Option Binary) ExpressionFault
binary_at line = next line >>= λ ahead. Ok (binary_sign_of ahead)

-- the operator in front of an operand that comes next, if one does
abbrev pub sign_at : Line → Result (Option Unary) ExpressionFault
sign_at line = next line >>= λ ahead. Ok (sign_of ahead)

-- the operand that comes next, if it has no operator in front
abbrev pub atom_at : Line → Result (Option ℕ) ExpressionFault
atom_at line = next line >>= atom_of

-- whether the closing parenthesis comes next
abbrev pub closing_at : Line → Result (Unit {0}) ExpressionFault
closing_at line = next line >>= closing

-- an answer, or the fault with the place at which it is found
abbrev pub located : {A : Type 0} → ℕ → Result A ExpressionFault → Result A Found
located left (Ok answer) = Ok answer
located left (Err kind) = Err (record { kind = kind; left = left })

-- every operand that ends before the end of the front has a value
abbrev pub HaveValues : Front → Type 0
HaveValues Here = ⊤
HaveValues (InGroup front) = HaveValues front
HaveValues (InPrefix operator front) = HaveValues front
HaveValues (InInfix operator left front) = HasValue left × HaveValues front

-- the operand after which the fault is found, if there is one, has a value too
abbrev pub IsAfterValue : {level : ℕ} {line : Line} {left order : ℕ} {kind : ExpressionFault}
    → Fails level line left order kind → Type 0
IsAfterValue (unread_after tree rest kind tight begins fits is) = HasValue tree
IsAfterValue (unclosed tree rest ahead kind begins fits is over out) = HasValue tree
IsAfterValue _ = ⊤

-- A fault that the line may have, and before which every finished operand has a value.
pub record IsMet (level : ℕ) (line : Line) (left order : ℕ) (kind : ExpressionFault) : Type 0 where
  pub possible : Possible level line left order kind
  pub front : HaveValues possible.front
  pub operand : IsAfterValue possible.fails

-- the same of a fault and the place at which it is found
pub record IsFault (level : ℕ) (line : Line) (found : Found) : Type 0 where
  pub order : ℕ
  pub met : IsMet level line found.left order found.kind
