use Rattle.std.proofs.Common.{◌∙◌, ap, sym, Err}
use Rattle.std.proofs.lemmas.Result.{err_from_is_err_and}
use Rattle.pp_macros.proofs.taking.ExpanderLemmas.{none_held}
use Rattle.pp_macros.proofs.taking.NestingLemmas.{held_fetched, step_fetched, moves_wait}
use Rattle.pp_macros.proofs.macro_processor.MacroProcessor.fetch.Goals as goal

pub returns-then-is_holding-clause-steps : goal.returns-then-is_holding-clause-steps
returns-then-is_holding-clause-steps g c = held_fetched c.args.self.now _ _ _ c.take_held.ensures.held c.take_held.ensures.left

pub returns-in_err-read-clause-steps : goal.returns-in_err-read-clause-steps
returns-in_err-read-clause-steps g c =
    let e = err_from_is_err_and c.from_residual.result c.from_residual.ensures.1 in
    let step = c.in_err-read.ensures {u = tt} in
    step_fetched c.args.self.now _ _ _ _ _ (none_held c.args.self.now.here.held (sym c.is_holding.ensures ∙ c.if-is_holding.false))
    step.moves step.others (e.1 ∙ ap Err e.2)

pub returns-clause-steps : goal.returns-clause-steps
returns-clause-steps g c =
    let step = c.in_ok-read.ensures {u = tt} in
    step_fetched c.args.self.now _ _ _ _ _ (none_held c.args.self.now.here.held (sym c.is_holding.ensures ∙ c.if-is_holding.false))
    step.moves step.others c.take_in.ensures.taken

pub returns-clause-waits : goal.returns-clause-waits
returns-clause-waits g c =
    let step = c.in_ok-read.ensures {u = tt} in
    rw step.others (moves_wait _ _ _ _ _ _ step.moves c.requires.waits)

pub returns-in_err-read-clause-waits : goal.returns-in_err-read-clause-waits
returns-in_err-read-clause-waits g c =
    let step = c.in_err-read.ensures {u = tt} in
    rw step.others (moves_wait _ _ _ _ _ _ step.moves c.requires.waits)
