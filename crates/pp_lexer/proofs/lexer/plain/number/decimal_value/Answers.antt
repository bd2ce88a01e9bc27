use Rattle.std.proofs.Common.{◌<◌, ◌^◌, refl, arith}
use Rattle.pp_lexer.proofs.numbers.PlainNumbersLemmas.{value_more, small_more, decimal_below_at, eighteen_digits, take_whole}
use Rattle.pp_lexer.proofs.lexer.plain.number.decimal_value.Goals as goal

pub loop-digit-init : goal.loop-digit-init
loop-digit-init c = record { value = refl; small = omega arith }

pub overflow_mul-value : goal.overflow_mul-value
overflow_mul-value c =
    let small : c.loop-digit.value < 10 ^ 18 = eighteen_digits c.loop-digit.digit-index c.loop-digit.value (omega arith) c.loop-digit.invariant.small in
    omega (arith, small)

pub overflow_add-value : goal.overflow_add-value
overflow_add-value c =
    let small : c.loop-digit.value < 10 ^ 18 = eighteen_digits c.loop-digit.digit-index c.loop-digit.value (omega arith) c.loop-digit.invariant.small in
    omega (arith, small, decimal_below_at c.loop-digit.digit-index c.args.digits.now c.loop-digit-test.true c.requires)

pub loop-digit-preserved : goal.loop-digit-preserved
loop-digit-preserved c = record {
  value = grind (arith, value_more);
  small =
      small_more c.loop-digit.digit-index c.loop-digit.value c.args.digits.now c.loop-digit-test.true c.requires c.loop-digit.invariant.small;
}

pub returns : goal.returns
returns c = grind (arith, take_whole)
