use Rattle.pp_rs.specs.Kept.{most_items}
use Rattle.pp_rs.proofs.runs.CollectingLemmas.{Dropped}
use Rattle.pp_rs.proofs.pp.all_items.drain.Given as goal

abbrev pub invariant-items : goal.invariant-items
invariant-items l = Dropped l.fn.pp l.pp

abbrev pub decreases-items : goal.decreases-items
decreases-items l = most_items l.pp
