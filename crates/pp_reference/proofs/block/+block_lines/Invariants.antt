use Rattle.std.proofs.Common.{length}
use Rattle.pp_reference.proofs.block.+block_lines.Given as goal

abbrev pub decreases-block_lines : goal.decreases-block_lines
decreases-block_lines l = length l.items.now
