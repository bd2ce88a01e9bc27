use Rattle.pp_rs.specs.Kept.{most_items}
use Rattle.uses.proofs.Reading.{HaveRead}
use Rattle.uses.proofs.variants.text_of_rest.Given as goal

abbrev pub invariant-items : goal.invariant-items
invariant-items l = HaveRead l.fn.pp l.pp l.tokens.items

abbrev pub decreases-items : goal.decreases-items
decreases-items l = most_items l.pp
