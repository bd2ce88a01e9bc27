use Rattle.std.proofs.Common.{ap, ◌∙◌}
use Rattle.std.specs.Prelude.{Err}
use Rattle.std.proofs.lemmas.Result.{err_from_is_err_and}
use Rattle.uses.proofs.DefinedFirst.{item_run, refused_run}
use Rattle.uses.proofs.defined_first.define_and_read.Goals as goal

pub returns-in_err-add_define-clause-error : goal.returns-in_err-add_define-clause-error
returns-in_err-add_define-clause-error c =
    let e = err_from_is_err_and c.from_residual.result c.from_residual.ensures.1 in
    rw (e.1 ∙ ap Err e.2) (refused_run c.args.pp.now c.add_define.new.self c.args.name.now c.args.content.now c.requires.rules
    c.in_err-add_define.field-0.0 c.in_err-add_define.ensures)

pub returns-clause-item : goal.returns-clause-item
returns-clause-item c = λ plain text stands. item_run c.args.pp.now c.add_define.new.self c.args.name.now c.args.content.now c.requires.rules
    text c.next.new.self c.next.result c.requires.unspent stands c.in_ok-add_define.ensures c.next.ensures.steps plain
