use Rattle.pp_expression.specs.inner.Evaluator.{Stands, steps_left}
use Rattle.pp_expression.proofs.evaluator.Evaluator.run.Given as goal

abbrev pub invariant-loop-state : goal.invariant-loop-state
invariant-loop-state l = Stands l.fn.self.line l.state l.self

abbrev pub decreases-loop-state : goal.decreases-loop-state
decreases-loop-state l = steps_left l.state l.self
