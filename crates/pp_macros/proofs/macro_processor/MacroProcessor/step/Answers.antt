use Rattle.std.proofs.Common.{◌∙◌, ap, refl, Err}
use Rattle.std.proofs.lemmas.Result.{err_from_is_err_and}
use Rattle.pp_macros.proofs.open_frames.KnownLemmas.{step_known}
use Rattle.pp_macros.proofs.taking.SeekLemmas.{turns_token, turns_exit}
use Rattle.pp_macros.proofs.macro_processor.MacroProcessor.step.Goals as goal

pub returns-in_err-read-clause-turns : goal.returns-in_err-read-clause-turns
returns-in_err-read-clause-turns g c =
    let e = err_from_is_err_and c.from_residual.result c.from_residual.ensures.1 in
    rw (e.1 ∙ ap Err e.2) (turns_exit _ _ _ _ c.in_err-read.field-0.0 (c.in_err-read.ensures {u = tt}).steps)

pub follow-requires-clause-known : goal.follow-requires-clause-known
follow-requires-clause-known g c =
    let taken = c.in_ok-read.ensures {u = tt} in
    step_known _ c.args.self.now c.take.new.self _ _ taken.steps refl taken.below c.requires.known

pub returns-clause-turns : goal.returns-clause-turns
returns-clause-turns g c = turns_token _ _ _ _ _ _ c.in_ok-read.read _ (c.in_ok-read.ensures {u = tt}).steps _ refl c.follow.ensures.follows
