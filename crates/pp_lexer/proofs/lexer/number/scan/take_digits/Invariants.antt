use Rattle.std.proofs.Common.{◌≡◌, length}
use Rattle.std.specs.Char.{is_digit}
use Rattle.pp_lexer.specs.Longest.{front_len}
use Rattle.pp_lexer.specs.inner.Scan.{upcoming, further}
use Rattle.pp_lexer.proofs.lexer.number.scan.take_digits.Given as goal

-- where the digits end stays the same
abbrev pub invariant-digits : goal.invariant-digits
invariant-digits l =
    further (front_len (λ c. is_digit c l.radix) (upcoming l.text)) l.text ≡ further (front_len (λ c. is_digit c l.radix) (upcoming l.fn.text)) l.fn.text

abbrev pub decreases-digits : goal.decreases-digits
decreases-digits l = length (upcoming l.text)
