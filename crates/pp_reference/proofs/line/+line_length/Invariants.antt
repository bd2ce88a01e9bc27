use Rattle.std.proofs.Common.{length}
use Rattle.pp_reference.proofs.line.+line_length.Given as goal

abbrev pub decreases-line_length : goal.decreases-line_length
decreases-line_length l = length l.items.now
