use Rattle.std.proofs.Common.{rules, ◌≡◌, Ok, Some, None, w64, FitsSigned, sym, arith}
use Rattle.std.proofs.lemmas.Int.{to_z-of_z}
use Rattle.pp_expression.specs.inner.Parsing.{binary_at}
use Rattle.pp_expression.specs.inner.Pending.{innermost}
use Rattle.pp_expression.proofs.EvaluatorLemmas as lemmas
use Rattle.pp_expression.proofs.evaluator.Evaluator.end_expression.Goals as goal

pub returns-in_err-value-clause-leads : goal.returns-in_err-value-clause-leads
returns-in_err-value-clause-leads c whole start =
    let fits : FitsSigned w64 c.args.operand = search rules in
    let operand = lemmas.looser_operand 0 whole c.args.self.now.pending c.args.self.now.line c.args.operand (omega arith) start in
    lemmas.ends _ whole c.in_err-value.field-0.0 c.from_residual.result c.from_residual.ensures.1
    (c.in_err-value.ensures.computes whole (rw (to_z-of_z w64 c.args.operand fits) operand))

pub returns-in_err-take_closing-in-Some-clause-leads : goal.returns-in_err-take_closing-in-Some-clause-leads
returns-in_err-take_closing-in-Some-clause-leads c whole start =
    let fits : FitsSigned w64 c.args.operand = search rules in
    let operand = lemmas.looser_operand 0 whole c.args.self.now.pending c.args.self.now.line c.args.operand (omega arith) start in
    let value = c.in_ok-value.ensures.computes whole (rw (to_z-of_z w64 c.args.operand fits) operand) in
    let stands : binary_at c.compute_from.new.self.line ≡ Ok None = rw c.compute_from.ensures.line c.requires in
    let is : innermost c.compute_from.new.self.pending ≡ Some c.in-Some.field-0 = cc (c.pop.ensures.is, c.in-Some.is) in
    let found = c.in_err-take_closing-in-Some.field-0.0 in
    lemmas.halts _ whole found c.from_residual-in_err-take_closing-in-Some.result c.from_residual-in_err-take_closing-in-Some.ensures.1
    (lemmas.group_open whole c.compute_from.new.self.pending c.compute_from.new.self.line c.in_ok-value.value c.in-Some.field-0 found is
    c.in_ok-value.ensures.loose value stands (sym c.in_err-take_closing-in-Some.ensures.value))

pub returns-in-None-clause-leads : goal.returns-in-None-clause-leads
returns-in-None-clause-leads c whole start =
    let fits : FitsSigned w64 c.args.operand = search rules in
    let value_fits : FitsSigned w64 c.in_ok-value.value = search rules in
    let operand = lemmas.looser_operand 0 whole c.args.self.now.pending c.args.self.now.line c.args.operand (omega arith) start in
    let value = c.in_ok-value.ensures.computes whole (rw (to_z-of_z w64 c.args.operand fits) operand) in
    let stands : binary_at c.compute_from.new.self.line ≡ Ok None = rw c.compute_from.ensures.line c.requires in
    let is : innermost c.compute_from.new.self.pending ≡ None = cc (c.pop.ensures.is, c.in-None.is) in
    rw (to_z-of_z w64 c.in_ok-value.value value_fits)
    (lemmas.expression_ended whole c.compute_from.new.self.pending c.compute_from.new.self.line c.in_ok-value.value is value stands)

pub returns-in_ok-take_closing-in-Some-clause-leads : goal.returns-in_ok-take_closing-in-Some-clause-leads
returns-in_ok-take_closing-in-Some-clause-leads c whole start =
    let fits : FitsSigned w64 c.args.operand = search rules in
    let value_fits : FitsSigned w64 c.in_ok-value.value = search rules in
    let operand = lemmas.looser_operand 0 whole c.args.self.now.pending c.args.self.now.line c.args.operand (omega arith) start in
    let value = c.in_ok-value.ensures.computes whole (rw (to_z-of_z w64 c.args.operand fits) operand) in
    let stands : binary_at c.compute_from.new.self.line ≡ Ok None = rw c.compute_from.ensures.line c.requires in
    let is : innermost c.compute_from.new.self.pending ≡ Some c.in-Some.field-0 = cc (c.pop.ensures.is, c.in-Some.is) in
    rw (c.take_closing.ensures.rest, c.pop.ensures.rest, to_z-of_z w64 c.in_ok-value.value value_fits)
    (lemmas.group_closed whole c.compute_from.new.self.pending c.compute_from.new.self.line c.in_ok-value.value c.in-Some.field-0 is
    c.in_ok-value.ensures.loose value stands (sym c.in_ok-take_closing-in-Some.ensures.value))
