use Rattle.std.proofs.Common.{length}
use Rattle.pp_reference.proofs.line.+line_end.Given as goal

abbrev pub decreases-line_end : goal.decreases-line_end
decreases-line_end l = length l.items.now
