use Rattle.pp_rs.specs.Kept.{most_items}
use Rattle.uses.proofs.from_macros.count_tokens.Given as goal

abbrev pub decreases-items : goal.decreases-items
decreases-items l = most_items l.pp
