use Rattle.std.proofs.Common.{◌∙◌, ap}
use Rattle.std.specs.Prelude.{◌==◌}
use Rattle.std.specs.List.{list_any}
use Rattle.pp_macros.specs.inner.Frames.{Frame}
use Rattle.pp_macros.proofs.open_frames.BaseLemmas.{shown_frames}
use Rattle.pp_macros.proofs.open_frames.CountLemmas.{any_counted, past_counted}
use Rattle.pp_macros.proofs.macro_processor.MacroProcessor.is_open.Goals as goal

pub returns-in-Some : goal.returns-in-Some
returns-in-Some c =
    any_counted c.self.inside.counts.items c.self.inside.frames.items c.args.id c.in-Some.count c.self.invariant.0
    (rw (c.deref.ensures.value, c.number.ensures) at c.in-Some.ensures.lookup)
    ∙ ap (list_any (λ (f : Frame). f.number == c.args.id)) (shown_frames c.self.inside.held c.self.inside.base c.self.inside.frames.items c.args.self.now c.self.view_is)

pub returns-in-None : goal.returns-in-None
returns-in-None c =
    past_counted c.self.inside.counts.items c.self.inside.frames.items c.args.id c.self.invariant.0
    (rw (c.deref.ensures.value, c.number.ensures) at c.in-None.ensures.lookup).3
    ∙ ap (list_any (λ (f : Frame). f.number == c.args.id)) (shown_frames c.self.inside.held c.self.inside.base c.self.inside.frames.items c.args.self.now c.self.view_is)
