use Rattle.std.proofs.Common.{sym, ap, refl, ◌∙◌}
use Rattle.std.specs.Prelude.{Result, Ok, Err, Bool}
use Rattle.std.proofs.lemmas.Result.{IfOk-weaker}
use Rattle.pp_model.specs.Places.{PlacedFault}
use Rattle.pp_model.specs.Emitting.{answers_at}
use Rattle.pp_model.proofs.values.OperandCases.{name, in_parentheses, neither}
use Rattle.pp_reference.proofs.line_words.operand.Goals as goal

pub returns-then-is_open_paren-clause-operand : goal.returns-then-is_open_paren-clause-operand
returns-then-is_open_paren-clause-operand c =
    IfOk-weaker c.operand_in_parentheses.result _ _ (λ answer h. in_parentheses c.args.kind c.args.directive (answers_at c.args.levels) c.in_ok-found.found _ _ _ answer c.in_ok-found.ensures.takes
    (sym c.is_open_paren.ensures ∙ c.if-is_open_paren.true) h) c.operand_in_parentheses.ensures.inside

pub returns-in-Ok-clause-operand : goal.returns-in-Ok-clause-operand
returns-in-Ok-clause-operand c =
    name c.args.kind c.args.directive (answers_at c.args.levels) c.in_ok-found.found c.in-Ok.name _ _ _ c.in_ok-found.ensures.takes c.in-Ok.ensures
    (ap (λ (b : Bool). let r : Result Bool PlacedFault = Ok b in r) c.is_defined.ensures)

pub returns-in-Err-clause-operand : goal.returns-in-Err-clause-operand
returns-in-Err-clause-operand c =
    neither c.args.kind c.args.directive (answers_at c.args.levels) c.in_ok-found.found _ _ _ c.in_ok-found.ensures.takes c.in-Err.ensures.0
    (sym c.is_open_paren.ensures ∙ c.if-is_open_paren.false) (ap (λ (f : PlacedFault). let r : Result Bool PlacedFault = Err f in r)
    (rw (c.fault_in.ensures, c.outermost_call.ensures, c.deref.ensures.value, c.in-Err.ensures.1) refl))
