use Rattle.std.proofs.Common.{length}
use Rattle.pp_lexer.specs.inner.Passing.{SeesSame}
use Rattle.pp_lexer.proofs.lexer.LexerState.skip_blanks.Given as goal

abbrev pub invariant-blanks : goal.invariant-blanks
invariant-blanks l = SeesSame l.fn.self l.self

abbrev pub decreases-blanks : goal.decreases-blanks
decreases-blanks l = length l.self.inner.rest
