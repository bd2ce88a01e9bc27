use Rattle.std.proofs.Common.{◌≡◌, ◌≤◌, length}
use Rattle.pp_lexer.specs.inner.Readers.{past_line}
use Rattle.pp_lexer.proofs.lexer.replace_comments.skip_line.Given as goal

abbrev pub invariant-line : goal.invariant-line
invariant-line l = record {
  state : past_line l.inner ≡ past_line l.fn.inner;
  forward : l.fn.inner.offset ≤ l.inner.offset;
}

abbrev pub decreases-line : goal.decreases-line
decreases-line l = length l.inner.rest
