use Rattle.std.proofs.Common.{arith}
use Rattle.pp_lexer.proofs.characters.StraightLemmas.{before_line_end}
use Rattle.pp_lexer.proofs.lexer.plain.comment.line_length.Goals as goal

pub returns-in-Some-clause-passes : goal.returns-in-Some-clause-passes
returns-in-Some-clause-passes c = grind (arith, before_line_end)

pub returns-in-None-clause-passes : goal.returns-in-None-clause-passes
returns-in-None-clause-passes c = grind (arith, before_line_end)
