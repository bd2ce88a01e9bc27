use Rattle.std.proofs.Common.{◌∙◌, refl, ap, sym}
use Rattle.std.specs.Prelude.{Err}
use Rattle.std.proofs.lemmas.Result.{err_from_is_err_and}
use Rattle.uses.proofs.Reading.{none_read}
use Rattle.uses.proofs.Versions.{number_less, number_read, error_before_number, no_number_read}
use Rattle.uses.proofs.version.first_version.Goals as goal

pub items-init : goal.items-init
items-init c = record { tokens = _; read = none_read c.args.pp.now c.requires.unspent; none_yet = refl }

pub items-preserved : goal.items-preserved
items-preserved c = number_less c.args.pp.now c.items.pp c.next.new.self c.items.invariant c.in_ok-token.token c.version_of-number.result
    (rw c.in_ok-token.was at c.in-Some.ensures.steps) c.version_of-number.ensures (sym c.is_some.ensures ∙ c.if-is_some.false)

pub returns-then-is_some-clause-asked : goal.returns-then-is_some-clause-asked
returns-then-is_some-clause-asked c = number_read c.args.pp.now c.items.pp c.next.new.self c.items.invariant c.in_ok-token.token c.version_of-number.result
    (rw c.in_ok-token.was at c.in-Some.ensures.steps) c.version_of-number.ensures (sym c.is_some.ensures ∙ c.if-is_some.true)

pub returns-in_err-token-clause-error : goal.returns-in_err-token-clause-error
returns-in_err-token-clause-error c =
    let e = err_from_is_err_and c.from_residual.result c.from_residual.ensures.1 in
    rw (e.1 ∙ ap Err e.2) (error_before_number c.args.pp.now c.items.pp c.next.new.self c.items.invariant c.in_err-token.field-0.0
    (rw c.in_err-token.was at c.in-Some.ensures.steps) c.requires.rules)

pub returns-clause-asked : goal.returns-clause-asked
returns-clause-asked c = no_number_read c.args.pp.now c.items.pp c.next.new.self c.items.invariant c.in_default.ensures.steps
