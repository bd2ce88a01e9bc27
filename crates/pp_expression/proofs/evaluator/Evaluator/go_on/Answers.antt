use Rattle.std.proofs.Common.{rules, w64, FitsSigned, sym}
use Rattle.std.proofs.lemmas.Int.{to_z-of_z}
use Rattle.pp_expression.proofs.Trees.{operand_stops}
use Rattle.pp_expression.proofs.EvaluatorLemmas as lemmas
use Rattle.pp_expression.proofs.evaluator.Evaluator.go_on.Goals as goal

pub returns-in_err-value-clause-leads : goal.returns-in_err-value-clause-leads
returns-in_err-value-clause-leads c whole start =
    let fits : FitsSigned w64 c.args.operand = search rules in
    lemmas.ends _ whole c.in_err-value.field-0.0 c.from_residual.result c.from_residual.ensures.1
    (c.in_err-value.ensures.computes whole (rw (to_z-of_z w64 c.args.operand fits) start))

pub returns-in_err-operator-clause-leads : goal.returns-in_err-operator-clause-leads
returns-in_err-operator-clause-leads c whole start =
    let fits : FitsSigned w64 c.args.operand = search rules in
    let product = c.in_ok-value.ensures.computes whole (rw (to_z-of_z w64 c.args.operand fits) start) in
    lemmas.halts _ whole c.in_err-operator.field-0.0 c.from_residual-in_err-operator.result c.from_residual-in_err-operator.ensures.1
    (lemmas.unread_after_operand whole c.compute_from.new.self.pending c.compute_from.new.self.line c.in_ok-value.value
    c.in_err-operator.field-0.0 c.in_ok-value.ensures.loose product (sym c.in_err-operator.ensures))

pub compute_from-requires-clause-over : goal.compute_from-requires-clause-over
compute_from-requires-clause-over c = operand_stops c.args.self.now.line
