use Rattle.std.proofs.Common.{if◌then◌else◌, arith}
use Rattle.pp_lexer.specs.Numbers.{is_decimal, is_e, exponent, digits}
use Rattle.pp_lexer.specs.inner.Numbers.{signed_digits}
use Rattle.pp_lexer.proofs.numbers.NumbersLemmas.{exponent_len, exponent_none}
use Rattle.pp_lexer.proofs.numbers.ScanLemmas.{then_takes, either_then, all_taken, signed_after}
use Rattle.pp_lexer.proofs.lexer.number.scan.take_exponent.Goals as goal

pub returns-then-not-take_either : goal.returns-then-not-take_either
returns-then-not-take_either c = grind (arith, exponent_none)

pub returns : goal.returns
returns c =
    either_then exponent signed_digits is_e _ _ _ _ c.take_either.ensures.test c.take_either.ensures.moved c.if-not-take_either.false (exponent_len _)
    (then_takes signed_digits digits (if c.take_either-2.result then 1 else 0) _ _ _
    (signed_after _ _ c.take_either-2.ensures.test) c.take_either-2.ensures.moved
    (all_taken is_decimal _ _ c.take_digits.ensures))
