use Rattle.std.proofs.Common.{length}
use Rattle.pp_reference.proofs.line.+line_tokens.Given as goal

abbrev pub decreases-line_tokens : goal.decreases-line_tokens
decreases-line_tokens l = length l.items.now
