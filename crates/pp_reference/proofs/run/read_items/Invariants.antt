use Rattle.std.proofs.Common.{◌≡◌, ◌++◌, false, length}
use Rattle.pp_reference.proofs.run.read_items.Given as goal

-- what was taken and what is left are the items before and what was left then
abbrev pub invariant-items : goal.invariant-items
invariant-items l = record {
  unspent : l.lexer.spent ≡ false;
  all : l.items.items ++ l.lexer.rest ≡ l.initial.items.items ++ l.initial.lexer.rest;
}

abbrev pub decreases-items : goal.decreases-items
decreases-items l = length l.lexer.rest
