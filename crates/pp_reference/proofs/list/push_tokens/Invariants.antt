use Rattle.std.proofs.Common.{◌≡◌, ◌++◌, List, drop}
use Rattle.pp_model.specs.inner.SpliceList.{followed_by}
use Rattle.pp_model.specs.declared.splice.Entry.{Entry}
use Rattle.pp_reference.proofs.list.push_tokens.Given as goal

abbrev pub invariant-loop-read : goal.invariant-loop-read
invariant-loop-read l = (rest : List Entry) → l.list.items ++ followed_by
    (drop l.read-index l.tokens) rest ≡ l.initial.list.items ++ followed_by l.tokens rest
