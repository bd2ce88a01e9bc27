use Rattle.pp_rs.specs.Kept.{most_items}
use Rattle.uses.proofs.Versions.{NoNumberRead}
use Rattle.uses.proofs.version.first_version.Given as goal

abbrev pub invariant-items : goal.invariant-items
invariant-items l = NoNumberRead l.fn.pp l.pp

abbrev pub decreases-items : goal.decreases-items
decreases-items l = most_items l.pp
