use Rattle.std.proofs.Common.{◌≡◌, ◌-◌, ◌∙◌, ap, length, drop, take, true, arith, sym}
use Rattle.pp_lexer.specs.inner.NumberValue.{float_power}
use Rattle.pp_lexer.proofs.numbers.PlainNumbersLemmas.{length_whole}
use Rattle.pp_lexer.proofs.numbers.PlainFloatsLemmas.{exponent_text}
use Rattle.pp_lexer.proofs.lexer.plain.number.exponent_length.Goals as goal

pub returns-clause-exponent : goal.returns-clause-exponent
returns-clause-exponent c =
    let bytes = c.args.bytes.now in
    let n = c.power_length-power.result in
    let rest : take (length bytes - 1) (drop 1 bytes) ≡ drop 1 bytes = length_whole 1 bytes in
    let power : float_power (take n (drop 1 bytes)) ≡ true = ap (λ t. float_power (take n t)) (sym rest)
    ∙ c.power_length-power.ensures.power (omega arith) in
    exponent_text n bytes (omega arith) (omega arith) power
