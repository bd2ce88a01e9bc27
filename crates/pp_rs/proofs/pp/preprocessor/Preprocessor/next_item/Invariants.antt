use Rattle.std.proofs.Common.{◌≡◌, true}
use Rattle.pp_rs.specs.Kept.{is_spent, most_items}
use Rattle.pp_rs.specs.inner.NextWord.{IsPassed}
use Rattle.pp_rs.proofs.pp.preprocessor.Preprocessor.next_item.Given as goal

-- pauses were passed; if memory had run out, nothing was
abbrev pub invariant-steps : goal.invariant-steps
invariant-steps l = record {
  passed : IsPassed l.fn.self l.self;
  spent : is_spent l.self ≡ true → l.self ≡ l.fn.self;
}

abbrev pub decreases-steps : goal.decreases-steps
decreases-steps l = most_items l.self
