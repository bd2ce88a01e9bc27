use Rattle.std.proofs.Common.{◌≡◌, ◌≤◌, false}
use Rattle.pp_rs.specs.Kept.{is_spent, most_items, rules_of}
use Rattle.pp_rs.specs.inner.GivingOn.{KeepsGiving}
use Rattle.pp_rs.proofs.pp.preprocessor.Preprocessor.give_front.Given as goal

abbrev pub invariant-tokens : goal.invariant-tokens
invariant-tokens g l = record {
  unspent : is_spent l.self ≡ false;
  left : most_items l.self ≤ most_items l.fn.self;
  rules : rules_of l.self ≡ rules_of l.fn.self;
  giving : KeepsGiving g.S.TokenSink.takes g.S.TokenSink.is_full l.fn.self l.fn.sink l.self l.sink;
}

abbrev pub decreases-tokens : goal.decreases-tokens
decreases-tokens g l = most_items l.self
