use Rattle.std.proofs.Common.{◌≡◌, ◌≤◌, ◌+◌, length}
use Rattle.std.specs.Str.{chars}
use Rattle.pp_lexer.specs.Lines.{lines}
use Rattle.pp_lexer.specs.inner.Positions.{position_from}
use Rattle.pp_lexer.proofs.lexer.position.position.Given as goal

-- the characters to come lead to the same line and column
abbrev pub invariant-characters : goal.invariant-characters
invariant-characters l = record {
  same : position_from l.line l.column l.offset l.reader.rest ≡ position_from 1 1 l.offset (lines (chars l.source));
  line : l.line ≤ l.reader.offset + 1;
  column : l.column ≤ l.reader.offset + 1;
}

abbrev pub decreases-characters : goal.decreases-characters
decreases-characters l = length l.reader.rest
