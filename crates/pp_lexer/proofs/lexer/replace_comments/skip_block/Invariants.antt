use Rattle.std.proofs.Common.{◌≡◌, ◌≤◌, length}
use Rattle.pp_lexer.specs.inner.Readers.{past_block}
use Rattle.pp_lexer.proofs.characters.CommentsLemmas.{past_block_after}
use Rattle.pp_lexer.proofs.lexer.replace_comments.skip_block.Given as goal

abbrev pub invariant-block : goal.invariant-block
invariant-block l = record {
  state : past_block_after l.was_star l.inner ≡ past_block l.fn.inner;
  forward : l.fn.inner.offset ≤ l.inner.offset;
}

abbrev pub decreases-block : goal.decreases-block
decreases-block l = length l.inner.rest
