use Rattle.pp_rs.specs.Kept.{most_items}
use Rattle.pp_c.specs.inner.Making.{GivesRest}
use Rattle.pp_c.proofs.preprocessing.give_rest.Given as goal

abbrev pub invariant-items : goal.invariant-items
invariant-items l = GivesRest l.fn.pp l.fn.output l.pp l.output

abbrev pub decreases-items : goal.decreases-items
decreases-items l = most_items l.pp
