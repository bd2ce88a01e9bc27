use Rattle.std.proofs.Common.{ap, refl, Some}
use Rattle.pp_macros.proofs.open_frames.BaseLemmas.{call_here, no_call_here}
use Rattle.pp_macros.proofs.macro_processor.MacroProcessor.outermost_call.Goals as goal

pub returns-in-Some : goal.returns-in-Some
returns-in-Some c =
    let found = rw c.deref.ensures.value at c.in-Some.ensures.lookup in
    rw (← c.self.view_is, call_here c.self.inside.base c.self.inside.frames.items c.in-Some.frame.now found.3.0 found.1) (ap Some c.call.ensures)

pub returns-in-None : goal.returns-in-None
returns-in-None c =
    let past = rw c.deref.ensures.value at c.in-None.ensures.lookup in
    rw (← c.self.view_is, no_call_here c.self.inside.base c.self.inside.frames.items past.3) refl
