use Rattle.std.proofs.Common.{length}
use Rattle.pp_reference.proofs.define_line.+after_parameter.Given as goal

abbrev pub decreases-after_parameter : goal.decreases-after_parameter
decreases-after_parameter l = length l.items.now
