use Rattle.std.proofs.Common.{rules, ◌≡◌, Ok, Some, None, length, w64, FitsSigned, sym}
use Rattle.std.proofs.lemmas.Int.{to_z-of_z}
use Rattle.pp_expression.specs.inner.Parsing.{located, sign_at, atom_at}
use Rattle.pp_expression.proofs.Steps as steps
use Rattle.pp_expression.proofs.EvaluatorLemmas as lemmas
use Rattle.pp_expression.proofs.evaluator.Evaluator.take_operand.Goals as goal

pub returns-in_err-operator-clause-leads : goal.returns-in_err-operator-clause-leads
returns-in_err-operator-clause-leads c whole start =
    lemmas.halts _ whole c.in_err-operator.field-0.0 c.from_residual.result c.from_residual.ensures.1
    (lemmas.sign_unread whole c.args.self.now.pending c.args.self.now.line c.in_err-operator.field-0.0 start (sym c.in_err-operator.ensures))

pub returns-in_err-number-clause-leads : goal.returns-in_err-number-clause-leads
returns-in_err-number-clause-leads c whole start =
    let sign : located (length c.args.self.now.line.symbols) (sign_at c.args.self.now.line) ≡ Ok None = cc (c.in_ok-operator.ensures, c.in_default.is) in
    lemmas.halts _ whole c.in_err-number.field-0.0 c.from_residual-in_err-number.result c.from_residual-in_err-number.ensures.1
    (lemmas.no_operand whole c.args.self.now.pending c.args.self.now.line c.in_err-number.field-0.0 start
    (steps.located_ok (length c.args.self.now.line.symbols) (sign_at c.args.self.now.line) None sign) (sym c.in_err-number.ensures.value))

pub returns-in-Some-2-clause-leads : goal.returns-in-Some-2-clause-leads
returns-in-Some-2-clause-leads c whole start =
    let fits : FitsSigned w64 c.literal.result = search rules in
    let atom : located (length c.args.self.now.line.symbols) (atom_at c.args.self.now.line) ≡ Ok (Some c.in-Some-2.number) =
    cc (c.in_ok-number.ensures.value, c.in-Some-2.is) in
    rw (c.take_atom.ensures.rest, to_z-of_z w64 c.literal.result fits, c.literal.ensures)
    (lemmas.number_read whole c.args.self.now.pending c.args.self.now.line c.in-Some-2.number start atom)
