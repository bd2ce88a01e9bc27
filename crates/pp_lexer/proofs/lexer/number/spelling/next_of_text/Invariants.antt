use Rattle.std.proofs.Common.{◌≡◌, length}
use Rattle.pp_lexer.specs.NumberValue.{float_text}
use Rattle.pp_lexer.proofs.lexer.number.spelling.next_of_text.Given as goal

-- what is passed gives nothing
abbrev pub invariant-dropped : goal.invariant-dropped
invariant-dropped l = float_text l.spelling ≡ float_text l.fn.spelling

abbrev pub decreases-dropped : goal.decreases-dropped
decreases-dropped l = length l.spelling
