use Rattle.std.proofs.Common.{length}
use Rattle.pp_reference.proofs.redefinition.+have_same_values.Given as goal

abbrev pub decreases-have_same_values : goal.decreases-have_same_values
decreases-have_same_values l = length l.old.now
