use Rattle.std.proofs.Common.{length}
use Rattle.pp_reference.proofs.line.+comments_before_end.Given as goal

abbrev pub decreases-comments_before_end : goal.decreases-comments_before_end
decreases-comments_before_end l = length l.items.now
