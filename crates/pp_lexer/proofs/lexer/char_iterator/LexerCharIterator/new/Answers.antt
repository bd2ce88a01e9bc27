use Rattle.std.proofs.Common.{arith}
use Rattle.pp_lexer.proofs.characters.SpotsLemmas.{length-spots_of-le}
use Rattle.pp_lexer.proofs.lexer.char_iterator.LexerCharIterator.new.Goals as goal

pub invariant_of-result : goal.invariant_of-result
invariant_of-result c = grind (arith, length-spots_of-le)
