use Rattle.std.proofs.Common.{◌≡◌, length, drop}
use Rattle.pp_lexer.specs.Longest.{front_len}
use Rattle.pp_lexer.specs.Numbers.{is_decimal}
use Rattle.pp_lexer.proofs.lexer.number.value.skip_digits.Given as goal

abbrev pub invariant-digits : goal.invariant-digits
invariant-digits l = drop (front_len is_decimal l.text) l.text ≡ drop (front_len is_decimal l.fn.text) l.fn.text

abbrev pub decreases-digits : goal.decreases-digits
decreases-digits l = length l.text
