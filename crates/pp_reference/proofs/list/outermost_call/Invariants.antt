use Rattle.std.proofs.Common.{◌≡◌, drop}
use Rattle.pp_model.specs.SpliceList.{outermost_call}
use Rattle.pp_model.proofs.ListLemmas.{rest_or}
use Rattle.pp_reference.proofs.list.outermost_call.Given as goal

abbrev pub invariant-loop-entry : goal.invariant-loop-entry
invariant-loop-entry l = outermost_call l.list ≡ rest_or (outermost_call (drop l.entry-index l.list)) l.call
