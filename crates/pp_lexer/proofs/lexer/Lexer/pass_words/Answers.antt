use Rattle.std.proofs.Common.{◌≡◌, ◌+◌, arith, nat_lt, true}
use Rattle.std.proofs.lemmas.Bool.{lt-ltb}
use Rattle.pp_lexer.proofs.items.TameItemsLemmas.{passed_more}
use Rattle.pp_lexer.proofs.lexer.Lexer.pass_words.Goals as goal

pub runs-preserved : goal.runs-preserved
runs-preserved c =
    let some : nat_lt 0 (c.runs.runs + 1) ≡ true = lt-ltb 0 (c.runs.runs + 1) (omega arith) in
    rw some (passed_more _ _ _ (nat_lt 0 c.runs.runs) c.runs.invariant (rw c.if-pass_run.true at c.pass_run.ensures))
