use Rattle.std.proofs.Common.{arith}
use Rattle.glslpp_parts.proofs.DefinitionsLemmas.{added_first}
use Rattle.glslpp_parts.proofs.definitions.add_definitions.Goals as goal

pub loop-definition-preserved : goal.loop-definition-preserved
loop-definition-preserved c =
    λ texts items rest. c.loop-definition.invariant texts items
    (added_first c.args.definitions.now c.loop-definition.definition-index _ c.loop-definition.texts c.add_definition.new.texts texts
    c.loop-definition.items c.add_definition.new.items items (omega arith) c.in_ok-add_definition.ensures rest)
