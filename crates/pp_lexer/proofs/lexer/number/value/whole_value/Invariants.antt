use Rattle.std.proofs.Common.{◌≡◌, ◌<◌, ◌^◌, length}
use Rattle.pp_lexer.specs.inner.NumberValue.{whole_after}
use Rattle.pp_lexer.proofs.lexer.number.value.whole_value.Given as goal

abbrev pub invariant-digits : goal.invariant-digits
invariant-digits l = record {
  rest : whole_after l.base l.value l.text ≡ whole_after l.base 0 l.fn.text;
  fits : l.value < 2 ^ 64;
}

abbrev pub decreases-digits : goal.decreases-digits
decreases-digits l = length l.text
