use Rattle.std.proofs.Common.{arith}
use Rattle.pp_macros.proofs.taking.PartLemmas.{part_next}
use Rattle.pp_macros.proofs.argument_lists.OpenArguments.token.Goals as goal

pub returns-clause-token : goal.returns-clause-token
returns-clause-token c =
    rw (← c.self.view_is, c.in-Some.is, ← part_next c.self.inside.tokens.items c.in-Some.part (omega arith))
    (rw c.deref.ensures.value at c.read_at.ensures.token)
