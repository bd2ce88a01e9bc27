use Rattle.pp_lexer.specs.Longest.{front_len}
use Rattle.pp_lexer.specs.Numbers.{is_hex, is_point, fraction}
use Rattle.pp_lexer.specs.inner.Numbers.{hex_tail}
use Rattle.pp_lexer.specs.inner.Scan.{upcoming}
use Rattle.pp_lexer.specs.Spellings.{many}
use Rattle.pp_lexer.proofs.numbers.NumbersLemmas.{hex_len, hex_tail_len, hex_tail_none}
use Rattle.pp_lexer.proofs.numbers.ScanLemmas.{then_takes, either_then, either_stop}
use Rattle.pp_lexer.proofs.lexer.number.scan.take_hex.Goals as goal

pub returns-then-not-take_char : goal.returns-then-not-take_char
returns-then-not-take_char c =
    then_takes (many is_hex hex_tail) hex_tail (front_len is_hex (upcoming c.args.text.now)) _ _ _ (hex_len _) c.take_digits.ensures
    (either_stop hex_tail is_point _ _ _ c.take_char.ensures.test c.take_char.ensures.moved c.if-not-take_char.true (hex_tail_none _))

pub returns : goal.returns
returns c =
    then_takes (many is_hex hex_tail) hex_tail (front_len is_hex (upcoming c.args.text.now)) _ _ _ (hex_len _) c.take_digits.ensures
    (either_then hex_tail fraction is_point _ _ _ _ c.take_char.ensures.test c.take_char.ensures.moved c.if-not-take_char.false
    (hex_tail_len _) c.take_fraction.ensures)
