use Rattle.std.proofs.Common.{◌≡◌, ◌++◌, length}
use Rattle.pp_lexer.proofs.lexer.number.value.gather.Given as goal

abbrev pub invariant-chars : goal.invariant-chars
invariant-chars l = l.gathered ++ l.text ≡ l.fn.text

abbrev pub decreases-chars : goal.decreases-chars
decreases-chars l = length l.text
