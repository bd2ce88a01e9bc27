use Rattle.std.proofs.Common.{rules, ◌+◌, w64, FitsSigned, to_z, sym, ◌∙◌}
use Rattle.std.proofs.lemmas.Int.{to_z-of_z}
use Rattle.pp_expression.specs.Lines.{Stops}
use Rattle.pp_expression.proofs.PendingLemmas as lemmas
use Rattle.pp_expression.proofs.Steps as steps
use Rattle.pp_expression.proofs.EvaluatorLemmas.{halts}
use Rattle.pp_expression.proofs.evaluator.Evaluator.compute_from.Goals as goal

pub returns-in_err-value-clause-computes : goal.returns-in_err-value-clause-computes
returns-in_err-value-clause-computes c whole start =
    let fits : FitsSigned w64 c.args.operand = search rules in
    let taken = c.in-Some.ensures.some in
    let operand = rw taken.taken at (c.loop-operator.invariant.operand whole (rw (to_z-of_z w64 c.args.operand fits) start)) in
    let stops : Stops (c.args.level + 1) c.loop-operator.self.line = rw c.loop-operator.invariant.line c.requires.over in
    let is = rw (c.left_at.ensures, c.apply.ensures) at (sym c.in_err-value.ensures) in
    halts _ whole c.in_err-value.field-0.0 c.from_residual.result c.from_residual.ensures.1
    (lemmas.not_computed c.args.level whole c.in-Some.operator c.take_from.new.self c.loop-operator.self.line
    (to_z w64 c.loop-operator.value-bits) c.in_err-value.field-0.0 taken.tight stops operand is)

pub loop-operator-preserved : goal.loop-operator-preserved
loop-operator-preserved c = record {
  line = c.loop-operator.invariant.line;
  operand = λ whole start.
      let x = c.in_ok-value.value in
      let fits : FitsSigned w64 x = search rules in
      let taken = c.in-Some.ensures.some in
      let operand = rw taken.taken at (c.loop-operator.invariant.operand whole start) in
      let stops : Stops (c.args.level + 1) c.loop-operator.self.line = rw c.loop-operator.invariant.line c.requires.over in
      let is = sym c.apply.ensures ∙ steps.located_ok c.left_at.result c.apply.result x (sym c.in_ok-value.ensures) in
      rw (to_z-of_z w64 x fits)
      (lemmas.computed c.args.level whole c.in-Some.operator c.take_from.new.self c.loop-operator.self.line
      (to_z w64 c.loop-operator.value-bits) x c.requires.low taken.tight stops operand is);
}
