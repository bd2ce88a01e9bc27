use Rattle.std.proofs.Common.{length}
use Rattle.pp_reference.proofs.run.+content_tokens.Given as goal

abbrev pub decreases-content_tokens : goal.decreases-content_tokens
decreases-content_tokens l = length l.items.now
