use Rattle.std.proofs.Common.{rules, ◌≡◌, ◌≤◌, Ok, Some, w64, FitsSigned}
use Rattle.std.proofs.lemmas.Int.{to_z-of_z}
use Rattle.pp_expression.specs.inner.Parsing.{binary_at}
use Rattle.pp_expression.proofs.Unique.{low_operator}
use Rattle.pp_expression.proofs.EvaluatorLemmas as lemmas
use Rattle.pp_expression.proofs.evaluator.Evaluator.take_operator.Goals as goal

pub returns-in_err-left-clause-leads : goal.returns-in_err-left-clause-leads
returns-in_err-left-clause-leads c whole start =
    let fits : FitsSigned w64 c.args.operand = search rules in
    let low : c.level_of.result ≤ 9 = rw c.level_of.ensures (low_operator c.args.operator) in
    let operand = lemmas.looser_operand c.level_of.result whole c.args.self.now.pending c.args.self.now.line c.args.operand low start in
    lemmas.ends _ whole c.in_err-left.field-0.0 c.from_residual.result c.from_residual.ensures.1
    (c.in_err-left.ensures.computes whole (rw (to_z-of_z w64 c.args.operand fits) operand))

pub returns-clause-leads : goal.returns-clause-leads
returns-clause-leads c whole start =
    let fits : FitsSigned w64 c.args.operand = search rules in
    let left_fits : FitsSigned w64 c.in_ok-left.left = search rules in
    let low : c.level_of.result ≤ 9 = rw c.level_of.ensures (low_operator c.args.operator) in
    let operand = lemmas.looser_operand c.level_of.result whole c.args.self.now.pending c.args.self.now.line c.args.operand low start in
    let left = c.in_ok-left.ensures.computes whole (rw (to_z-of_z w64 c.args.operand fits) operand) in
    let loose = rw c.level_of.ensures at c.in_ok-left.ensures.loose in
    let stands : binary_at c.compute_from.new.self.line ≡ Ok (Some c.args.operator) = rw c.compute_from.ensures.line c.requires in
    rw (c.in_ok-push.ensures, c.pass.ensures, to_z-of_z w64 c.in_ok-left.left left_fits)
    (lemmas.operator_taken whole c.compute_from.new.self.pending c.compute_from.new.self.line c.args.operator c.in_ok-left.left loose
    (rw c.level_of.ensures at left) stands)

pub compute_from-requires-clause-low : goal.compute_from-requires-clause-low
compute_from-requires-clause-low c = rw c.level_of.ensures (low_operator c.args.operator)
