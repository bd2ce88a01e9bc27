use Rattle.pp_rs.specs.Kept.{most_items}
use Rattle.pp_rs.proofs.runs.CollectingLemmas.{Appended}
use Rattle.pp_rs.proofs.pp.all_items.gather.Given as goal

abbrev pub invariant-items : goal.invariant-items
invariant-items l = Appended l.fn.pp l.fn.items.items l.items.items l.pp

abbrev pub decreases-items : goal.decreases-items
decreases-items l = most_items l.pp
