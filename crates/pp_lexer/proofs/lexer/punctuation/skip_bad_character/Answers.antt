use Rattle.std.proofs.Common.{arith}
use Rattle.pp_lexer.proofs.characters.AdvancedLemmas.{after_first-one, after_first-advanced}
use Rattle.pp_lexer.proofs.lexer.punctuation.skip_bad_character.Goals as goal

pub returns-then-rules : goal.returns-then-rules
returns-then-rules c = grind (arith, after_first-one)

pub returns : goal.returns
returns c = grind (arith, after_first-one, after_first-advanced)
