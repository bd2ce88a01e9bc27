use Rattle.std.proofs.Common.{arith}
use Rattle.pp_lexer.proofs.characters.LinesLemmas.{first_plain, first_line_feed, first_return}
use Rattle.pp_lexer.proofs.lexer.chars_and_line.split_piece.Goals as goal

pub returns-in-10 : goal.returns-in-10
returns-in-10 c = grind (arith, first_line_feed)

pub returns-in-13 : goal.returns-in-13
returns-in-13 c = grind (arith, first_return)

pub returns-in_default : goal.returns-in_default
returns-in_default c = grind (arith, first_plain)
