use Rattle.std.proofs.Common.{arith, refl}
use Rattle.pp_macros.proofs.taking.PartLemmas.{part_after}
use Rattle.pp_macros.proofs.taking.LastPartLemmas.{rest_apart}
use Rattle.pp_macros.proofs.argument_lists.OpenArguments.pass.Goals as goal

pub invariant_of-self : goal.invariant_of-self
invariant_of-self c = (
  c.self.invariant.0,
  c.self.invariant.1,
  λ last. rest_apart c.in-Some.part c.self.inside.parts.items (rw c.in-Some.is at (c.self.invariant.2 last)),
)

pub returns : goal.returns
returns c =
    rw (← c.self.view_is, c.in-Some.is, ← part_after c.self.inside.tokens.items c.in-Some.part (omega arith)) refl
