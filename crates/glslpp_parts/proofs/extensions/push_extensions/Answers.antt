use Rattle.std.proofs.Common.{refl, arith}
use Rattle.glslpp_parts.proofs.ExtensionsLemmas.{one_put}
use Rattle.glslpp_parts.proofs.extensions.push_extensions.Goals as goal

pub loop-name-preserved : goal.loop-name-preserved
loop-name-preserved c =
    one_put c.args.names.now c.loop-name.name-index _ _ (omega arith) refl _ _ _ c.in_ok-push.ensures.items c.loop-name.invariant
