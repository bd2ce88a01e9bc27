use Rattle.std.proofs.Common.{◌-◌, length}
use Rattle.pp_lexer.proofs.words.TameLemmas.{Front}
use Rattle.pp_lexer.proofs.lexer.plain.words.tame_front.Given as goal

abbrev pub invariant-bytes : goal.invariant-bytes
invariant-bytes l = Front l.bytes l.at l.newlines

abbrev pub decreases-bytes : goal.decreases-bytes
decreases-bytes l = length l.bytes - l.at
