use Rattle.std.proofs.Common.{refl, arith}
use Rattle.pp_c.specs.inner.Batches.{cut}
use Rattle.pp_c.proofs.stream.state.State.give.Goals as goal

pub returns-then-given-gt0-clause-given : goal.returns-then-given-gt0-clause-given
returns-then-given-gt0-clause-given c =
    rw (← c.self.view_is, c.replace-3.ensures.after, c.replace-2.ensures.after, ← c.take.ensures.value, ← c.replace.ensures.value)
    (cut c.fill-end.new.self.given c.if-self.shortage refl (omega (arith, c.if-given-gt0.true)) (c.in_default-end.ensures.short) c.in_default.is refl refl)
