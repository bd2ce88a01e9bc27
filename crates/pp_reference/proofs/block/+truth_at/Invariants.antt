use Rattle.std.proofs.Common.{length}
use Rattle.pp_reference.proofs.block.+truth_at.Given as goal

abbrev pub decreases-truth_at : goal.decreases-truth_at
decreases-truth_at l = length l.truths.now
