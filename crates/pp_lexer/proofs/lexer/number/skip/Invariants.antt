use Rattle.std.proofs.Common.{◌≡◌}
use Rattle.pp_lexer.specs.Reading.{advanced}
use Rattle.pp_lexer.proofs.lexer.number.skip.Given as goal

abbrev pub invariant-loop-i : goal.invariant-loop-i
invariant-loop-i l = l.inner ≡ advanced l.i l.fn.inner
