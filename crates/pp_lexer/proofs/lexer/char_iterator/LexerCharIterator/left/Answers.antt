use Rattle.std.proofs.Common.{arith}
use Rattle.pp_lexer.proofs.characters.FrontsLemmas.{left_of}
use Rattle.pp_lexer.proofs.lexer.char_iterator.LexerCharIterator.left.Goals as goal

pub returns : goal.returns
returns c = grind (arith, left_of)
