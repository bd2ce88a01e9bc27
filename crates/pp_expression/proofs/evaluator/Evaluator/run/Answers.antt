use Rattle.std.proofs.Common.{rules, FitsSigned, w64}
use Rattle.std.proofs.lemmas.Int.{to_z-of_z}
use Rattle.pp_expression.proofs.EvaluatorLemmas as lemmas
use Rattle.pp_expression.proofs.evaluator.Evaluator.run.Goals as goal

pub returns-in_err-state-in-OperandRead-clause-halt : goal.returns-in_err-state-in-OperandRead-clause-halt
returns-in_err-state-in-OperandRead-clause-halt c =
    let fits : FitsSigned w64 c.in-OperandRead.value = search rules in
    let operand = rw c.in-OperandRead.is at c.loop-state.invariant in
    lemmas.ends _ c.args.self.now.line c.in_err-state-in-OperandRead.field-0.0 c.from_residual-in_err-state-in-OperandRead.result
    c.from_residual-in_err-state-in-OperandRead.ensures.1
    (c.in_err-state-in-OperandRead.ensures.leads c.args.self.now.line (rw (to_z-of_z w64 c.in-OperandRead.value fits) operand))
