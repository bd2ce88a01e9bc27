use Rattle.pp_print.proofs.AddsLemmas.{added_none, added_next}
use Rattle.pp_print.proofs.definitions.add_definitions.Goals as goal

pub loop-definition-init : goal.loop-definition-init
loop-definition-init c = added_none c.args.items.now

pub loop-definition-preserved : goal.loop-definition-preserved
loop-definition-preserved c =
    added_next c.args.defs.now c.loop-definition.definition-index _ c.args.items.now c.loop-definition.items c.add_definition.new.items
    c.loop-definition-test.true c.loop-definition.invariant (c.in_ok-add_definition.ensures {u = tt}).added
