use Rattle.std.proofs.Common.{◌≡◌, ◌++◌, drop}
use Rattle.pp_model.specs.SpliceList.{open_names}
use Rattle.pp_reference.proofs.list.open_names.Given as goal

abbrev pub invariant-loop-entry : goal.invariant-loop-entry
invariant-loop-entry l = l.names.items ++ open_names (drop l.entry-index l.list) ≡ open_names l.list
