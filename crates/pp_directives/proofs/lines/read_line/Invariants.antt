use Rattle.std.proofs.Common.{◌≡◌, ◌≢◌, [], false, IsTrue, All, IfSome, option_map, ◌+◌, ◌≤◌, length, drop}
use Rattle.pp_lexer.specs.TokenValue.{is_ordinary}
use Rattle.pp_macros.specs.inner.LineReading as spec
use Rattle.pp_macros.specs.inner.SourceLexed.{unreported_at}
use Rattle.pp_directives.proofs.FurtherLemmas.{GoesFurther}
use Rattle.pp_directives.proofs.LineReadingLemmas.{tokens_before, wanted_items}
use Rattle.pp_directives.specs.inner.TokenLists.{IsReadable, token_of}
use Rattle.pp_directives.proofs.lines.read_line.Given as goal

-- what was read, and what the next token begins, are the whole line
abbrev pub invariant-loop-next : goal.invariant-loop-next
invariant-loop-next g l = record {
  whole : tokens_before (g.T.TokenList.tokens l.tokens) (spec.tokens_after (option_map token_of l.next) l.lexer.rest) ≡ spec.tokens_after (option_map token_of l.initial.next) l.initial.lexer.rest;
  place : drop (spec.length_after (option_map token_of l.next) l.lexer.rest) l.lexer.rest ≡ drop (spec.length_after (option_map token_of l.initial.next) l.initial.lexer.rest) l.initial.lexer.rest;
  shown : drop (spec.shown_after (option_map token_of l.next) l.lexer.rest) l.lexer.rest ≡ drop (spec.shown_after (option_map token_of l.initial.next) l.initial.lexer.rest) l.initial.lexer.rest;
  fewer : length l.lexer.rest ≤ length l.initial.lexer.rest;
  further : GoesFurther l.initial.lexer l.lexer;
  unspent : l.lexer.spent ≡ false;
  errors : unreported_at l.lexer ≡ unreported_at l.initial.lexer;
  read_ordinary : All (λ t. IsTrue (is_ordinary t.value)) (g.T.TokenList.tokens l.tokens);
  next_readable : IfSome l.next IsReadable;
  comments : spec.comments_after (option_map token_of l.next) l.lexer.rest l.lexer.had_comments ≡ spec.comments_after (option_map token_of l.initial.next) l.initial.lexer.rest
      l.initial.lexer.had_comments;
  left : IfSome l.next (λ t. l.lexer.rest ≢ []);
  kept : g.T.TokenList.kept l.tokens ≡ g.T.TokenList.kept l.initial.tokens;
}

abbrev pub decreases-loop-next : goal.decreases-loop-next
decreases-loop-next g l = wanted_items (option_map token_of l.next) + length l.lexer.rest
