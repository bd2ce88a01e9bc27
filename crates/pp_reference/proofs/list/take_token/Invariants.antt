use Rattle.std.proofs.Common.{◌≡◌, length}
use Rattle.pp_model.specs.SpliceList.{after_marks}
use Rattle.pp_reference.proofs.list.take_token.Given as goal

abbrev pub invariant-loop-entry : goal.invariant-loop-entry
invariant-loop-entry l = after_marks l.initial.list.items ≡ after_marks l.list.items

abbrev pub decreases-loop-entry : goal.decreases-loop-entry
decreases-loop-entry l = length l.list.items
