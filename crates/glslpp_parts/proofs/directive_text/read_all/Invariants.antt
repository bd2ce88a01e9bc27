use Rattle.std.proofs.Common.{◌≡◌, ◌++◌, false, length}
use Rattle.pp_lexer.specs.Respelling.{read_values_by}
use Rattle.glslpp_parts.specs.Reading.{values_ahead}
use Rattle.glslpp_parts.proofs.directive_text.read_all.Given as goal

-- what was read and what is ahead are all values
abbrev pub invariant-tokens : goal.invariant-tokens
invariant-tokens l = record {
  spent : l.lexer.spent ≡ false;
  whole : l.reads.items ++ values_ahead l.lexer ≡ read_values_by l.fn.rules l.text;
}

abbrev pub decreases-tokens : goal.decreases-tokens
decreases-tokens l = length (values_ahead l.lexer)
