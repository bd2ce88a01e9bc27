use Rattle.std.proofs.Common.{refl, arith}
use Rattle.pp_lexer.proofs.numbers.PlainNumbersLemmas.{take_whole}
use Rattle.pp_lexer.proofs.numbers.PlainHexLemmas.{hex_more}
use Rattle.pp_lexer.proofs.lexer.plain.number.hex_value.Goals as goal

pub loop-byte-init : goal.loop-byte-init
loop-byte-init c = refl

pub loop-byte-preserved : goal.loop-byte-preserved
loop-byte-preserved c = grind (arith, hex_more)

pub returns : goal.returns
returns c = grind (arith, take_whole)
