-- What the steps of the evaluator promise each other. What is promised to callers is in FirstFault.
use Rattle.std.specs.Prelude.{ℕ, ◌+◌, ◌≤◌, length, Result, MatchResult, IfOk, ⊤, ℤ}
use Rattle.pp_expression.specs.declared.halt.Halt.{Halt}
use Rattle.pp_expression.specs.declared.halt.Halt.TheVariants as halt
use Rattle.pp_expression.specs.declared.evaluator.Evaluator.{Evaluator}
use Rattle.pp_expression.specs.declared.evaluator.State.{State}
use Rattle.pp_expression.specs.declared.evaluator.State.TheVariants as state
use Rattle.pp_expression.specs.Lines.{Line, Reads}
use Rattle.pp_expression.specs.inner.Parsing.{IsFault}
use Rattle.pp_expression.specs.inner.Pending.{Awaits, HasOperand}

-- how far an evaluation of the whole line has got, in each state
abbrev pub Stands : Line → State → Evaluator → Type 0
Stands whole state.OperandWanted evaluator = Awaits whole evaluator.pending evaluator.line
Stands whole (state.OperandRead number) evaluator = HasOperand 9 whole evaluator.pending evaluator.line number
Stands whole (state.Ended number) evaluator = Reads 0 0 whole evaluator.line number

-- Why an evaluation of the whole line has no value: a fault that the line may have and before which every finished
-- operand has a value, or memory that ran out.
abbrev pub IsHalt : Line → Halt → Type 0
IsHalt whole (halt.Fault found) = IsFault 0 whole found
IsHalt whole (halt.Refused error) = ⊤

-- For every whole line: if the old evaluator has got as far as the first state says, the new one has got as far as the
-- next state says, or the evaluation has no value.
abbrev pub Leads : State → Evaluator → Result State Halt → Evaluator → Type 0
Leads from old result new =
    (whole : Line)
    → Stands whole from old
    → MatchResult result (λ to. Stands whole to new) (IsHalt whole)

-- For every whole line: if an operand of the level and of this value was read, an operand of the level and of the value
-- that results was read after it, or the evaluation has no value.
abbrev pub Computes : ℕ → ℤ → Evaluator → Result ℤ Halt → Evaluator → Type 0
Computes level number old result new =
    (whole : Line) → HasOperand level whole old.pending old.line number
    → MatchResult result (λ value. HasOperand level whole new.pending new.line value) (IsHalt whole)

-- how many steps may still come
abbrev pub steps_left : State → Evaluator → ℕ
steps_left state.OperandWanted evaluator = length evaluator.line.symbols + 1
steps_left (state.OperandRead number) evaluator = length evaluator.line.symbols + 1
steps_left (state.Ended number) evaluator = 0

-- a step that goes on took a symbol
abbrev pub GetsOn : Evaluator → Result State Halt → Evaluator → Type 0
GetsOn old result new = IfOk result (λ to. steps_left to new ≤ length old.line.symbols)
