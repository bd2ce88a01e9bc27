use Rattle.std.proofs.Common.{◌≡◌}
use Rattle.std.specs.Prelude.{◌-◌}
use Rattle.pp_c.specs.inner.Batches.{waiting_in, HasGot}
use Rattle.pp_c.proofs.stream.batch.Batch.fill.Given as goal

abbrev pub invariant-items : goal.invariant-items
invariant-items l = record {
  most : l.self.most ≡ l.fn.self.most;
  got : HasGot l.fn.pp (waiting_in l.fn.self) l.fn.self.output l.fn.self.most l.pp l.self;
}

abbrev pub decreases-items : goal.decreases-items
decreases-items l = l.fn.self.most - l.self.given
