use Rattle.std.proofs.Common.{length}
use Rattle.pp_reference.proofs.block.+open_blocks.Given as goal

abbrev pub decreases-open_blocks : goal.decreases-open_blocks
decreases-open_blocks l = length l.lines.now
