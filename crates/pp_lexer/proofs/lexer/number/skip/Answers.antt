use Rattle.std.proofs.Common.{arith}
use Rattle.pp_lexer.proofs.characters.AdvancedLemmas.{advanced-zero, after_first-advanced}
use Rattle.pp_lexer.proofs.lexer.number.skip.Goals as goal

pub loop-i-init : goal.loop-i-init
loop-i-init c = grind (arith, advanced-zero)

pub loop-i-preserved : goal.loop-i-preserved
loop-i-preserved c = grind (arith, after_first-advanced)
