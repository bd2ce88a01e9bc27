use Rattle.pp_lexer.specs.Longest.{front_len}
use Rattle.pp_lexer.specs.Numbers.{is_decimal, exponent, fraction}
use Rattle.pp_lexer.specs.inner.Scan.{upcoming}
use Rattle.pp_lexer.proofs.numbers.NumbersLemmas.{fraction_len}
use Rattle.pp_lexer.proofs.numbers.ScanLemmas.{then_takes}
use Rattle.pp_lexer.proofs.lexer.number.scan.take_fraction.Goals as goal

pub returns : goal.returns
returns c = then_takes fraction exponent (front_len is_decimal (upcoming c.args.text.now)) _ _ _ (fraction_len _) c.take_digits.ensures c.take_exponent.ensures
