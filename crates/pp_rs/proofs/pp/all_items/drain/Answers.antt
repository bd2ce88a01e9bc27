use Rattle.pp_rs.proofs.runs.CollectingLemmas.{dropped_none, dropped_more, drained}
use Rattle.pp_rs.proofs.pp.all_items.drain.Goals as goal

pub items-init : goal.items-init
items-init c = dropped_none c.args.pp.now

pub items-preserved : goal.items-preserved
items-preserved c = dropped_more c.args.pp.now c.items.pp c.next.new.self c.in-Some.item c.in-Some.ensures.steps c.items.invariant

pub returns-in-None-clause-drained : goal.returns-in-None-clause-drained
returns-in-None-clause-drained c = drained c.args.pp.now c.items.pp c.next.new.self c.in-None.ensures.steps c.items.invariant
