use Rattle.std.proofs.Common.{ap, refl}
use Rattle.std.specs.Prelude.{Result, Err, Bool}
use Rattle.std.proofs.lemmas.Result.{IfOk-weaker}
use Rattle.pp_model.specs.Places.{PlacedFault}
use Rattle.pp_model.specs.Emitting.{answers_at}
use Rattle.pp_model.proofs.values.OperandCases.{no_name}
use Rattle.pp_model.proofs.values.WordLemmas.{closes_named}
use Rattle.pp_reference.proofs.line_words.operand_in_parentheses.Goals as goal

pub returns-in-Ok-clause-inside : goal.returns-in-Ok-clause-inside
returns-in-Ok-clause-inside c =
    IfOk-weaker c.closed_operand.result _ _
    (λ answer h. closes_named c.args.kind c.args.directive (answers_at c.args.levels) c.in-Ok.name c.in_ok-found.found _ _ _ answer
    c.in_ok-found.ensures.takes c.in-Ok.ensures h) c.closed_operand.ensures.closes

pub returns-in-Err-clause-inside : goal.returns-in-Err-clause-inside
returns-in-Err-clause-inside c =
    no_name c.args.kind c.args.directive (answers_at c.args.levels) c.in_ok-found.found _ _ _ c.in_ok-found.ensures.takes c.in-Err.ensures.0
    (ap (λ (f : PlacedFault). let r : Result Bool PlacedFault = Err f in r)
    (rw (c.fault_in.ensures, c.outermost_call.ensures, c.deref.ensures.value, c.in-Err.ensures.1) refl))
