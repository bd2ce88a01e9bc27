-- The first fault of an expression of `#if`, `#elif` or `#line` (GLSL ES 3.20 section 3.4), and what an evaluation
-- gives. A line may have several faults. Each is found at the symbol with which it becomes certain, as the line is read
-- from left to right. The first fault is the one found at the earliest symbol, and of several found at one symbol the
-- one of the lowest order.
--
--   order 1   the symbol can't be read: the fault that ends the reading comes in its place
--   order 2   an operator has no value. One in front of its operand, `*`, `/` and `%` are computed at the last symbol
--             of their right operand, the others at the symbol after it, or at the end of the line
--   order 4   the symbol, or the end of the line, isn't allowed there
--
-- Order 3 is left for a fault of the whole value (`LineOverflow` of a `#line`), which is found at the symbol after the
-- expression.
use Rattle.std.specs.Prelude.{◌≡◌, ℕ, ◌+◌, ◌≤◌, ◌<◌, false, nat_lt, length, if◌then◌else◌, List, [], ◌∷◌, ◌++◌, Option}
use Rattle.std.specs.Prelude.{Some, None, Result, Ok, Err, ℤ, MatchResult, ◌⊎◌}
use Rattle.pp_lexer.specs.declared.token.Punct.TheVariants as mark
use Rattle.pp_expression.specs.declared.operator.Unary.{Unary}
use Rattle.pp_expression.specs.declared.operator.Binary.{Binary}
use Rattle.pp_expression.specs.declared.symbol.Symbol.{Symbol}
use Rattle.pp_expression.specs.declared.symbol.Symbol.TheVariants as symbol
use Rattle.pp_expression.specs.declared.symbol.ExpressionFault.{ExpressionFault}
use Rattle.pp_expression.specs.declared.symbol.ExpressionFault.TheVariants as fault
use Rattle.pp_expression.specs.declared.symbol.Value.{Value}
use Rattle.pp_expression.specs.declared.symbol.Found.{Found}
use Rattle.pp_expression.specs.Operators.{unary_of, unary_punct, binary_punct, level_of}
use Rattle.pp_expression.specs.Arithmetic.{unary_value, binary_value}
use Rattle.pp_expression.specs.Trees.{Tree, Prefix, Infix, spelling, Fits, value}
use Rattle.pp_expression.specs.Lines.{Line, Begins, next, goes_on, Stops, Reads}

-- the operator that a symbol is if it is in front of an operand
abbrev pub sign_of : Option Symbol → Option Unary
sign_of (Some (symbol.Punct punct)) = unary_of punct
sign_of _ = None

-- the fault of a symbol, or of the end, that isn't allowed at its position
abbrev pub unexpected : Option Symbol → ExpressionFault
unexpected (Some ahead) = fault.Unexpected
unexpected None = fault.UnexpectedEndOfInput

-- What a symbol begins, if an operand without an operator in front is expected: a number, or None at an opening
-- parenthesis. A `defined` whose own operand has a fault is allowed here, but is that fault. Any other symbol, and the
-- end, isn't allowed.
abbrev pub atom_of : Option Symbol → Result (Option ℕ) ExpressionFault
atom_of (Some (symbol.Number number)) = Ok (Some number)
atom_of (Some (symbol.Punct mark.LeftParen)) = Ok None
atom_of (Some symbol.Fault) = Err fault.Operand
atom_of ahead = Err (unexpected ahead)

-- the symbol is a closing parenthesis; another one, or the end, is a fault
abbrev pub closing : Option Symbol → Result (Unit {0}) ExpressionFault
closing (Some (symbol.Punct mark.RightParen)) = Ok tt
closing ahead = Err (unexpected ahead)

-- An expression up to a place at which an operand is expected, from the outside inwards. `Here` is the place; it may be
-- in parentheses, after an operator in front, or after a left operand and its operator.
pub data Front : Type 0 where
  Here : Front
  InGroup : Front → Front
  InPrefix : Unary → Front → Front
  InInfix : Binary → Tree → Front → Front

-- the symbols that a front is written as
abbrev pub front_spelling : Front → List Symbol
front_spelling Here = []
front_spelling (InGroup front) = symbol.Punct mark.LeftParen ∷ front_spelling front
front_spelling (InPrefix operator front) = symbol.Punct (unary_punct operator) ∷ front_spelling front
front_spelling (InInfix operator left front) =
    spelling left ++ (symbol.Punct (binary_punct operator) ∷ front_spelling front)

-- The front may begin an expression of the level, by the rules of `Fits`.
abbrev pub FitsFront : ℕ → Front → Type 0
FitsFront level Here = Unit {0}
FitsFront level (InGroup front) = FitsFront 0 front
FitsFront level (InPrefix operator front) = FitsFront 10 front
FitsFront level (InInfix operator left front) =
    (level ≤ level_of operator) × Fits (level_of operator) left × FitsFront (level_of operator + 1) front

-- the level of the operand that is expected at the end of a front
abbrev pub wanted : ℕ → Front → ℕ
wanted level Here = level
wanted level (InGroup front) = wanted 0 front
wanted level (InPrefix operator front) = wanted 10 front
wanted level (InInfix operator left front) = wanted (level_of operator + 1) front

-- The number of symbols from the one at which an operator is computed to the end, if `rest` is the line after its right
-- operand: the last symbol of that operand for the operators of level 9, and the symbol after it for the others.
abbrev pub unread_at : Binary → Line → ℕ
unread_at operator rest = if nat_lt (level_of operator) 9 then length rest.symbols else length rest.symbols + 1

-- The faults that are possible if an operand of the level is expected at the front of the line. Each has the number of
-- symbols from the one at which it is found to the end, its order, and its kind.
pub data Fails (level : ℕ) (line : Line) : ℕ → ℕ → ExpressionFault → Type 0 where
  -- the next symbol can't be read
  unread : (kind : ExpressionFault)
      → next line ≡ Err kind
      → Fails level line (length line.symbols) 1 kind
  -- no operand begins with the next symbol, or at the end
  wrong : (ahead : Option Symbol) (kind : ExpressionFault)
      → next line ≡ Ok ahead
      → sign_of ahead ≡ None
      → atom_of ahead ≡ Err kind
      → Fails level line (length line.symbols) 4 kind
  -- the symbol after an operand of the level can't be read
  unread_after : (tree : Tree) (rest : Line) (kind : ExpressionFault)
      → level ≤ 9
      → Begins line (spelling tree) rest
      → Fits level tree
      → next rest ≡ Err kind
      → Fails level line (length rest.symbols) 1 kind
  -- the parenthesis that begins the operand isn't closed
  unclosed : (tree : Tree) (rest : Line) (ahead : Option Symbol) (kind : ExpressionFault)
      → Begins line (symbol.Punct mark.LeftParen ∷ spelling tree) rest
      → Fits 0 tree
      → next rest ≡ Ok ahead
      → goes_on 0 rest.symbols ≡ false
      → closing ahead ≡ Err kind
      → Fails level line (length rest.symbols) 4 kind
  -- the operator in front that begins the operand has no value
  signed : (operator : Unary) (operand : Tree) (rest : Line) (number : ℤ) (kind : ExpressionFault)
      → Begins line (spelling (Prefix operator operand)) rest
      → Fits 10 operand
      → value operand ≡ Ok number
      → unary_value operator number ≡ Err kind
      → Fails level line (length rest.symbols + 1) 2 kind
  -- an operator between operands has no value
  operated : (operator : Binary) (former latter : Tree) (rest : Line) (first second : ℤ) (kind : ExpressionFault)
      → Begins line (spelling (Infix operator former latter)) rest
      → Fits level (Infix operator former latter)
      → value former ≡ Ok first
      → value latter ≡ Ok second
      → binary_value operator first second ≡ Err kind
      → Stops (level_of operator + 1) rest
      → Fails level line (unread_at operator rest) 2 kind

-- A fault that the line may have: the operators before it are grouped by precedence. An operand that ends before it may
-- itself have a fault.
pub record Possible (level : ℕ) (line : Line) (left order : ℕ) (kind : ExpressionFault) : Type 0 where
  pub front : Front
  pub here : Line
  pub begins : Begins line (front_spelling front) here
  pub stands : FitsFront level front
  pub fails : Fails (wanted level front) here left order kind

-- Found at an earlier symbol, so that more symbols are left, or at the same one and no later in order.
abbrev pub Before : ℕ → ℕ → ℕ → ℕ → Type 0
Before left order other_left other_order = (other_left < left) ⊎ ((other_left ≡ left) × (order ≤ other_order))

-- The first fault of an expression of the level at the front of the line: the line may have it, and no other fault that
-- the line may have comes before it.
pub record IsFirst (level : ℕ) (line : Line) (found : Found) : Type 0 where
  pub order : ℕ
  pub possible : Possible level line found.left order found.kind
  pub first : (other_left other_order : ℕ) (kind : ExpressionFault)
      → Possible level line other_left other_order kind
      → Before found.left order other_left other_order

-- The line begins with an expression of this value, `found.left` symbols come after it, and no fault is possible.
pub record IsValue (line : Line) (found : Value) : Type 0 where
  pub rest : Line
  pub reads : Reads 0 0 line rest found.value
  pub after : found.left ≡ length rest.symbols
  pub faultless : (left order : ℕ) (kind : ExpressionFault) → Possible 0 line left order kind → ⊥

-- What an evaluation of a line gives: its value, or its first fault.
abbrev pub Evaluates : Line → Result Value Found → Type 0
Evaluates line result = MatchResult result (IsValue line) (IsFirst 0 line)
