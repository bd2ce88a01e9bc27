use Rattle.std.proofs.Common.{length}
use Rattle.pp_reference.proofs.source_text.+has_directive.Given as goal

abbrev pub decreases-has_directive : goal.decreases-has_directive
decreases-has_directive l = length l.items.now
