use Rattle.std.proofs.Common.{arith}
use Rattle.pp_lexer.proofs.numbers.ValueLemmas.{whole_too_large}
use Rattle.pp_lexer.proofs.lexer.number.value.whole_value.Goals as goal

pub returns-in_err-shifted : goal.returns-in_err-shifted
returns-in_err-shifted c = grind (arith, whole_too_large)

pub returns-in_err-value : goal.returns-in_err-value
returns-in_err-value c = grind (arith, whole_too_large)
