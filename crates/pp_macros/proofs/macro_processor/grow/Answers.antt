use Rattle.std.proofs.Common.{◌∙◌}
use Rattle.pp_macros.proofs.open_frames.CountLemmas.{zero_pushed}
use Rattle.pp_macros.proofs.macro_processor.grow.Goals as goal

pub places-preserved : goal.places-preserved
places-preserved c = λ k. (rw c.in_ok-push.ensures.items (zero_pushed c.places.counts.items k)) ∙ c.places.invariant k
