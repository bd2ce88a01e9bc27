use Rattle.std.proofs.Common.{length}
use Rattle.pp_reference.proofs.block.+has_else_mark.Given as goal

abbrev pub decreases-has_else_mark : goal.decreases-has_else_mark
decreases-has_else_mark l = length l.marks.now
