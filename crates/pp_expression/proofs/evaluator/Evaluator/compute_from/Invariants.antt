use Rattle.std.proofs.Common.{◌≡◌, length}
use Rattle.pp_expression.specs.Lines.{Line}
use Rattle.pp_expression.specs.inner.Pending.{HasOperand}
use Rattle.pp_expression.proofs.evaluator.Evaluator.compute_from.Given as goal

abbrev pub invariant-loop-operator : goal.invariant-loop-operator
invariant-loop-operator l = record {
  line : l.self.line ≡ l.fn.self.line;
  operand : (whole : Line) → HasOperand l.level whole l.fn.self.pending l.fn.self.line l.operand → HasOperand l.level whole l.self.pending l.self.line l.value;
}

abbrev pub decreases-loop-operator : goal.decreases-loop-operator
decreases-loop-operator l = length l.self.pending
