use Rattle.std.proofs.Common.{◌≡◌, false, ◌≤◌, length, drop}
use Rattle.pp_model.specs.Lines.{line_end, line_length}
use Rattle.pp_macros.specs.inner.LineReading.{passed_line, shown_on}
use Rattle.pp_macros.specs.inner.SourceLexed.{unreported_at}
use Rattle.pp_macros.specs.inner.Unreported.{ReportsNone}
use Rattle.pp_directives.specs.inner.LineEnds.{passed_end}
use Rattle.pp_directives.proofs.FurtherLemmas.{GoesFurther}
use Rattle.pp_directives.proofs.lines.line_end.Given as goal

-- what is left of the line is its end
abbrev pub invariant-line : goal.invariant-line
invariant-line l = record {
  whole : passed_line l.passes l.lexer.rest ≡ passed_line l.passes l.initial.lexer.rest;
  place : drop (line_length l.lexer.rest) l.lexer.rest ≡ drop (line_length l.initial.lexer.rest) l.initial.lexer.rest;
  shown : drop (shown_on (passed_line l.passes) l.lexer.rest) l.lexer.rest
      ≡ drop (shown_on (passed_end l.passes l.initial.end) l.initial.lexer.rest) l.initial.lexer.rest;
  from : l.end ≡ l.initial.end;
  end : line_end l.initial.end l.lexer.rest ≡ line_end l.initial.end l.initial.lexer.rest;
  fewer : length l.lexer.rest ≤ length l.initial.lexer.rest;
  further : GoesFurther l.initial.lexer l.lexer;
  unspent : l.lexer.spent ≡ false;
  errors : ReportsNone l.passes (unreported_at l.initial.lexer) (unreported_at l.lexer);
}

abbrev pub decreases-line : goal.decreases-line
decreases-line l = length l.lexer.rest
