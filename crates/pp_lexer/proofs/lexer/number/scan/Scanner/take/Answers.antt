use Rattle.std.proofs.Common.{arith}
use Rattle.pp_lexer.proofs.characters.AdvancedLemmas.{after_first-one}
use Rattle.pp_lexer.proofs.lexer.number.scan.Scanner.take.Goals as goal

pub returns : goal.returns
returns c = grind (arith, after_first-one)
