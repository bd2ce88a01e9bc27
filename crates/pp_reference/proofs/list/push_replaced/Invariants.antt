use Rattle.std.proofs.Common.{◌≡◌, ◌++◌, List, drop}
use Rattle.pp_model.specs.SpliceList.{body_before}
use Rattle.pp_model.specs.declared.splice.Entry.{Entry}
use Rattle.pp_reference.proofs.list.push_replaced.Given as goal

abbrev pub invariant-loop-token : goal.invariant-loop-token
invariant-loop-token l = (rest : List Entry) → l.list.items ++ body_before l.parameters l.arguments l.text
    (drop l.token-index l.body) rest ≡ l.initial.list.items ++ body_before l.parameters l.arguments l.text l.body rest
