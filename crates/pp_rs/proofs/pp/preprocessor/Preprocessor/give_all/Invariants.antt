use Rattle.std.proofs.Common.{◌≡◌, false}
use Rattle.pp_rs.specs.Kept.{is_spent, most_items, rules_of}
use Rattle.pp_rs.specs.inner.GivingOn.{IsGiving}
use Rattle.pp_rs.proofs.pp.preprocessor.Preprocessor.give_all.Given as goal

abbrev pub invariant-items : goal.invariant-items
invariant-items g l = record {
  unspent : is_spent l.self ≡ false;
  rules : rules_of l.self ≡ rules_of l.fn.self;
  giving : IsGiving g.S.TokenSink.takes g.S.TokenSink.is_full l.fn.self l.fn.sink l.self l.sink;
}

abbrev pub decreases-items : goal.decreases-items
decreases-items g l = most_items l.self
