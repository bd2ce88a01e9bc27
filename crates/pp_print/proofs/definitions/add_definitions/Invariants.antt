use Rattle.std.proofs.Common.{take}
use Rattle.pp_print.specs.inner.Defining.{AreAdded}
use Rattle.pp_print.proofs.definitions.add_definitions.Given as goal

abbrev pub invariant-loop-definition : goal.invariant-loop-definition
invariant-loop-definition l = AreAdded l.fn.items (take l.definition-index l.defs) l.items
