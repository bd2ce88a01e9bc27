use Rattle.std.proofs.Common.{◌≡◌, [], false, length}
use Rattle.pp_model.specs.Run.{items_by, content_tokens}
use Rattle.pp_directives.proofs.LineReadingLemmas.{tokens_before}
use Rattle.pp_directives.proofs.content.content_body.Given as goal

-- what was read, and what is left, are the whole content
abbrev pub invariant-content : goal.invariant-content
invariant-content l = record {
  whole : tokens_before l.body.tokens (content_tokens l.lexer.rest) ≡ content_tokens (items_by l.fn.rules l.content);
  unspent : l.lexer.spent ≡ false;
  parameters : l.body.parameters ≡ [];
}

abbrev pub decreases-content : goal.decreases-content
decreases-content l = length l.lexer.rest
