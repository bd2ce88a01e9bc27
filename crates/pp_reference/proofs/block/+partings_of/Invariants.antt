use Rattle.std.proofs.Common.{length}
use Rattle.pp_reference.proofs.block.+partings_of.Given as goal

abbrev pub decreases-partings_of : goal.decreases-partings_of
decreases-partings_of l = length l.lines.now
