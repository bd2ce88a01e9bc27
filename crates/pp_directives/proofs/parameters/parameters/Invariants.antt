use Rattle.std.proofs.Common.{◌≡◌, false, ◌≤◌, length, drop}
use Rattle.pp_model.specs.DefineLines.{parameters, after_parameter}
use Rattle.pp_macros.specs.inner.LineReading.{shown_on}
use Rattle.pp_macros.specs.inner.ParameterReading.{function_at}
use Rattle.pp_macros.specs.inner.SourceLexed.{unreported_at}
use Rattle.pp_directives.proofs.FurtherLemmas.{GoesFurther}
use Rattle.pp_directives.proofs.ParametersLemmas.{function_from}
use Rattle.pp_directives.proofs.parameters.parameters.Given as goal

-- what goes on after these parameters is the whole
abbrev pub invariant-parameters : goal.invariant-parameters
invariant-parameters l = record {
  whole : parameters l.fn.word l.fn.lexer.rest ≡ after_parameter l.fn.word l.names l.lexer.rest;
  shown : drop (shown_on (function_at l.fn.word) l.fn.lexer.rest) l.fn.lexer.rest
      ≡ drop (shown_on (function_from l.fn.word l.names) l.lexer.rest) l.lexer.rest;
  fewer : length l.lexer.rest ≤ length l.fn.lexer.rest;
  further : GoesFurther l.fn.lexer l.lexer;
  unspent : l.lexer.spent ≡ false;
  errors : unreported_at l.lexer ≡ unreported_at l.fn.lexer;
}

abbrev pub decreases-parameters : goal.decreases-parameters
decreases-parameters l = length l.lexer.rest
