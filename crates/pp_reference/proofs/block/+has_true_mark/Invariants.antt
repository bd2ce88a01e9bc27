use Rattle.std.proofs.Common.{length}
use Rattle.pp_reference.proofs.block.+has_true_mark.Given as goal

abbrev pub decreases-has_true_mark : goal.decreases-has_true_mark
decreases-has_true_mark l = length l.marks.now
