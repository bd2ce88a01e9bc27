use Rattle.std.proofs.Common.{◌≡◌, ◌≤◌}
use Rattle.pp_rs.specs.Kept.{most_items, rules_of}
use Rattle.pp_rs.specs.inner.GivingOn.{KeepsGiving}
use Rattle.pp_rs.specs.inner.NextWord.{ReadsText}
use Rattle.pp_rs.proofs.pp.preprocessor.Preprocessor.give_words.Given as goal

abbrev pub invariant-words : goal.invariant-words
invariant-words g l = record {
  reads : ReadsText l.self;
  left : most_items l.self ≤ most_items l.fn.self;
  rules : rules_of l.self ≡ rules_of l.fn.self;
  giving : KeepsGiving g.S.TokenSink.takes g.S.TokenSink.is_full l.fn.self l.fn.sink l.self l.sink;
}

abbrev pub decreases-words : goal.decreases-words
decreases-words g l = most_items l.self
