use Rattle.std.proofs.Common.{arith}
use Rattle.pp_c.proofs.FillLemmas.{open_less}
use Rattle.pp_c.proofs.stream.batch.BatchTokenSink.take.Goals as goal

pub overflow_add-self : goal.overflow_add-self
overflow_add-self c = omega (arith, open_less c.args.self.now c.requires)
