use Rattle.std.proofs.Common.{◌∙◌, ap, arith}
use Rattle.pp_lexer.specs.inner.Scan.{further}
use Rattle.pp_lexer.proofs.numbers.ScanLemmas.{digit_taken, fewer_left}
use Rattle.pp_lexer.proofs.lexer.number.scan.take_digits.Goals as goal

pub digits-smaller : goal.digits-smaller
digits-smaller c = fewer_left _ _ _ c.in-Some.ensures.value (c.take.ensures ∙ ap (further 1) c.peek.ensures.same)

pub digits-preserved : goal.digits-preserved
digits-preserved c = grind (arith, digit_taken)
