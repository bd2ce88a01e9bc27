use Rattle.std.proofs.Common.{length}
use Rattle.pp_reference.proofs.run.+replies.Given as goal

abbrev pub decreases-replies : goal.decreases-replies
decreases-replies l = length l.calls.now
