use Rattle.std.proofs.Common.{◌≡◌, ◌≤◌, length}
use Rattle.pp_lexer.specs.Continuations.{continued}
use Rattle.pp_lexer.proofs.lexer.skip_backslash_newline.take_joined.Given as goal

-- what is left after the continuations passed is the same
abbrev pub invariant-continuations : goal.invariant-continuations
invariant-continuations l = record {
  rest : continued l.inner.rest ≡ continued l.fn.inner.rest;
  total : l.inner.total ≡ l.fn.inner.total;
  forward : l.fn.inner.offset ≤ l.inner.offset;
}

abbrev pub decreases-continuations : goal.decreases-continuations
decreases-continuations l = length l.inner.rest
