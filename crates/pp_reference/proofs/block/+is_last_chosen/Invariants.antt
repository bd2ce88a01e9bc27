use Rattle.std.proofs.Common.{length}
use Rattle.pp_reference.proofs.block.+is_last_chosen.Given as goal

abbrev pub decreases-is_last_chosen : goal.decreases-is_last_chosen
decreases-is_last_chosen l = length l.marks.now
