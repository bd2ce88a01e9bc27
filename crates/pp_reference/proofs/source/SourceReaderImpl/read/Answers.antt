use Rattle.std.proofs.Common.{arith}
use Rattle.pp_model.specs.Onward.{here, later}
use Rattle.pp_reference.specs.inner.SeenSource.{source_state}
use Rattle.pp_reference.proofs.source.SourceReaderImpl.read.Goals as goal

pub returns-in-Some-clause-reads : goal.returns-in-Some-clause-reads
returns-in-Some-clause-reads c =
    c.lines.invariant.goes_on c.in-Some.taken (source_state c.step.new.self)
    (here c.in-Some.taken (source_state c.lines.self) (source_state c.step.new.self)
    (rw c.in-Some.is at (c.in_ok-taken.ensures {u = tt}).steps))

pub lines-preserved : goal.lines-preserved
lines-preserved c = record {
  goes_on = λ x t h.
      c.lines.invariant.goes_on x t
      (later x (source_state c.lines.self) (source_state c.step.new.self) t (rw c.in_default.is at (c.in_ok-taken.ensures {u = tt}).steps) h);
  spent = omega arith;
}
