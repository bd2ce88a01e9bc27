use Rattle.std.proofs.Common.{length}
use Rattle.pp_reference.proofs.line.+line_fault.Given as goal

abbrev pub decreases-line_fault : goal.decreases-line_fault
decreases-line_fault l = length l.items.now
