use Rattle.std.proofs.Common.{◌≡◌, false, ◌≤◌, length, drop}
use Rattle.pp_model.specs.Lines.{line_length}
use Rattle.pp_macros.specs.inner.LineReading as spec
use Rattle.pp_macros.specs.inner.SourceLexed.{unreported_at}
use Rattle.pp_directives.proofs.FurtherLemmas.{GoesFurther}
use Rattle.pp_directives.proofs.lines.skip_tokens.Given as goal

-- what is left of the line is its end
abbrev pub invariant-line : goal.invariant-line
invariant-line l = record {
  whole : spec.skipped_line l.lexer.rest ≡ spec.skipped_line l.initial.lexer.rest;
  place : drop (line_length l.lexer.rest) l.lexer.rest ≡ drop (line_length l.initial.lexer.rest) l.initial.lexer.rest;
  shown : drop (spec.shown_on spec.skipped_line l.lexer.rest) l.lexer.rest
      ≡ drop (spec.shown_on spec.skipped_line l.initial.lexer.rest) l.initial.lexer.rest;
  fewer : length l.lexer.rest ≤ length l.initial.lexer.rest;
  further : GoesFurther l.initial.lexer l.lexer;
  unspent : l.lexer.spent ≡ false;
  errors : unreported_at l.lexer ≡ unreported_at l.initial.lexer;
}

abbrev pub decreases-line : goal.decreases-line
decreases-line l = length l.lexer.rest
