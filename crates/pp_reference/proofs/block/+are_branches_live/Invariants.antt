use Rattle.std.proofs.Common.{length}
use Rattle.pp_reference.proofs.block.+are_branches_live.Given as goal

abbrev pub decreases-are_branches_live : goal.decreases-are_branches_live
decreases-are_branches_live l = length l.blocks.now
