use Rattle.std.proofs.Common.{◌≡◌, ◌≤◌, ◌-◌, ◌∙◌, ap, length, drop, take, true, arith, sym}
use Rattle.std.specs.List.{list_all}
use Rattle.pp_lexer.specs.Numbers.{is_decimal}
use Rattle.pp_lexer.specs.inner.PlainWords.{BeginsSign}
use Rattle.pp_lexer.proofs.numbers.PlainNumbersLemmas.{length_whole}
use Rattle.pp_lexer.proofs.numbers.PlainFloatsLemmas.{unsigned_power, signed_power}
use Rattle.pp_lexer.proofs.lexer.plain.number.power_length.Goals as goal

pub returns-then-not-begins_with_sign-clause-power : goal.returns-then-not-begins_with_sign-clause-power
returns-then-not-begins_with_sign-clause-power c = grind (arith, unsigned_power)

pub returns-clause-power : goal.returns-clause-power
returns-clause-power c = λ _.
    let bytes = c.args.bytes.now in
    let n = c.digits_length-digits.result in
    let rest : take (length bytes - 1) (drop 1 bytes) ≡ drop 1 bytes = length_whole 1 bytes in
    let within : n ≤ length (drop 1 bytes) = omega (arith, c.digits_length-digits.ensures.within, ap length rest) in
    let passes : list_all is_decimal (take n (drop 1 bytes)) ≡ true = ap (λ t. list_all is_decimal (take n t)) (sym rest)
    ∙ c.digits_length-digits.ensures.passes in
    let sign : BeginsSign bytes = c.begins_with_sign.ensures c.if-not-begins_with_sign.false in
    signed_power n bytes sign.some sign.sign within passes (omega arith)
