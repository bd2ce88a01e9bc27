-- Laws of expressions (GLSL ES 3.20 section 3.4): a line has an outcome, and only one. Level 0 is that of a whole
-- expression, and level 10 that of an operand.
use Rattle.std.specs.Prelude.{◌≡◌, ℕ, ◌≤◌, Result, ℤ}
use Rattle.pp_expression.specs.declared.symbol.Value.{Value}
use Rattle.pp_expression.specs.declared.symbol.Found.{Found}
use Rattle.pp_expression.specs.Lines.{Line, Reads}
use Rattle.pp_expression.specs.FirstFault.{IsFirst, Evaluates}

-- An expression at the front of a line has one value, and one end.
abbrev pub OneValue : Type 0
OneValue =
    (level : ℕ) (line rest other_rest : Line) (number other : ℤ)
    → level ≤ 10
    → Reads level level line rest number
    → Reads level level line other_rest other
    → (number ≡ other) × (rest ≡ other_rest)

-- A line has one first fault, found at one place.
abbrev pub OneFault : Type 0
OneFault =
    (level : ℕ) (line : Line) (found other : Found)
    → level ≤ 10
    → IsFirst level line found
    → IsFirst level line other
    → found ≡ other

-- No line has both a value and a first fault.
abbrev pub NotBoth : Type 0
NotBoth =
    (level : ℕ) (line rest : Line) (number : ℤ) (found : Found)
    → level ≤ 10
    → Reads level level line rest number
    → IsFirst level line found
    → ⊥

-- A line has a value, or a first fault.
abbrev pub AnEvaluation : Type 0
AnEvaluation = (line : Line) → (result : Result Value Found) × Evaluates line result
