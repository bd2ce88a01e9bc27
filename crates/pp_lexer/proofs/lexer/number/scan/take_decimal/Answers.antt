use Rattle.pp_lexer.specs.Longest.{front_len}
use Rattle.pp_lexer.specs.Numbers.{is_decimal, is_point, decimal_tail, fraction, exponent}
use Rattle.pp_lexer.specs.inner.Scan.{upcoming}
use Rattle.pp_lexer.specs.Spellings.{many}
use Rattle.pp_lexer.proofs.numbers.NumbersLemmas.{decimal_len, decimal_tail_len, decimal_tail_none}
use Rattle.pp_lexer.proofs.numbers.ScanLemmas.{then_takes, either_then, either_else}
use Rattle.pp_lexer.proofs.lexer.number.scan.take_decimal.Goals as goal

pub returns-then-take_char : goal.returns-then-take_char
returns-then-take_char c =
    then_takes (many is_decimal decimal_tail) decimal_tail (front_len is_decimal (upcoming c.args.text.now)) _ _ _ (decimal_len _) c.take_digits.ensures
    (either_then decimal_tail fraction is_point _ _ _ _ c.take_char.ensures.test c.take_char.ensures.moved c.if-take_char.true
    (decimal_tail_len _) c.take_fraction.ensures)

pub returns : goal.returns
returns c =
    then_takes (many is_decimal decimal_tail) decimal_tail (front_len is_decimal (upcoming c.args.text.now)) _ _ _ (decimal_len _) c.take_digits.ensures
    (either_else decimal_tail exponent is_point _ _ _ _ c.take_char.ensures.test c.take_char.ensures.moved c.if-take_char.false
    (decimal_tail_none _) c.take_exponent.ensures)
