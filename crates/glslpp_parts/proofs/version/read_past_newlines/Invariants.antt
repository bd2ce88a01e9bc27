use Rattle.std.proofs.Common.{◌≡◌, false, length}
use Rattle.glslpp_parts.specs.Reading.{values_ahead}
use Rattle.glslpp_parts.specs.Version.{after_newlines}
use Rattle.glslpp_parts.proofs.version.read_past_newlines.Given as goal

-- only empty lines were read
abbrev pub invariant-lines : goal.invariant-lines
invariant-lines l = record {
  spent : l.lexer.spent ≡ false;
  same : after_newlines (values_ahead l.fn.lexer) ≡ after_newlines (values_ahead l.lexer);
}

abbrev pub decreases-lines : goal.decreases-lines
decreases-lines l = length (values_ahead l.lexer)
