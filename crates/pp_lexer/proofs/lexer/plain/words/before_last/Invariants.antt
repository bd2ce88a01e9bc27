use Rattle.std.proofs.Common.{◌≡◌, ◌≤◌}
use Rattle.pp_lexer.specs.inner.Tame.{feeds}
use Rattle.pp_lexer.proofs.lexer.plain.words.before_last.Given as goal

abbrev pub invariant-bytes : goal.invariant-bytes
invariant-bytes l = record { within : l.at ≤ l.fn.front.length; newlines : l.newlines ≡ feeds l.bytes l.at }

abbrev pub decreases-bytes : goal.decreases-bytes
decreases-bytes l = l.at
