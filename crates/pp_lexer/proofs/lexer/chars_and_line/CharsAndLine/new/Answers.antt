use Rattle.std.proofs.Common.{arith}
use Rattle.pp_lexer.proofs.characters.LinesLemmas.{lines_are}
use Rattle.pp_lexer.proofs.lexer.chars_and_line.CharsAndLine.new.Goals as goal

pub returns : goal.returns
returns c = grind (arith, lines_are)
