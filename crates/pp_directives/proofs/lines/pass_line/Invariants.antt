use Rattle.std.proofs.Common.{◌≡◌, true, false, ◌≤◌, length, drop}
use Rattle.pp_model.specs.Lines.{line_length}
use Rattle.pp_macros.specs.inner.SourceLexed.{unreported_at}
use Rattle.pp_macros.specs.inner.Unreported.{ReportsNone}
use Rattle.pp_directives.proofs.FurtherLemmas.{GoesFurther}
use Rattle.pp_directives.proofs.lines.pass_line.Given as goal

-- what is left of the line is its end
abbrev pub invariant-line : goal.invariant-line
invariant-line l = record {
  place : drop (line_length l.lexer.rest) l.lexer.rest ≡ drop (line_length l.initial.lexer.rest) l.initial.lexer.rest;
  fewer : length l.lexer.rest ≤ length l.initial.lexer.rest;
  further : GoesFurther l.initial.lexer l.lexer;
  unspent : l.lexer.spent ≡ false;
  errors : ReportsNone true (unreported_at l.initial.lexer) (unreported_at l.lexer);
}

abbrev pub decreases-line : goal.decreases-line
decreases-line l = length l.lexer.rest
