use Rattle.std.proofs.Common.{◌≡◌, length}
use Rattle.pp_macros.specs.inner.Nesting.{with_frames}
use Rattle.pp_macros.proofs.macro_processor.MacroProcessor.close_all.Given as goal

-- only frames that were open here are closed
abbrev pub invariant-frames : goal.invariant-frames
invariant-frames l = l.self ≡ with_frames l.fn.self l.self.here.frames

abbrev pub decreases-frames : goal.decreases-frames
decreases-frames l = length l.self.here.frames
