use Rattle.std.proofs.Common.{◌≡◌, ◌≤◌, ◌+◌, ◌-◌, ◌∙◌, ap, length, drop, take, true, arith, rules, sym}
use Rattle.pp_lexer.specs.NumberValue.{float_exponent}
use Rattle.pp_lexer.proofs.numbers.PlainNumbersLemmas.{length_whole}
use Rattle.pp_lexer.proofs.numbers.PlainFloatsLemmas.{IsFloatFront, whole_front}
use Rattle.pp_lexer.proofs.lexer.plain.number.whole_float.Goals as goal

pub spelled_float-requires : goal.spelled_float-requires
spelled_float-requires c =
    let bytes = c.args.bytes.now in
    let n = c.args.whole in
    let k = c.exponent_length-exponent.result in
    let rest : take (length bytes - n) (drop n bytes) ≡ drop n bytes = length_whole n bytes in
    let within : k ≤ length (drop n bytes) = omega (arith, c.exponent_length-exponent.ensures.within, ap length rest) in
    let exponent : float_exponent (take k (drop n bytes)) ≡ true = ap (λ t. float_exponent (take k t)) (sym rest)
    ∙ c.exponent_length-exponent.ensures.exponent in
    let front : IsFloatFront bytes (n + k) =
    whole_front bytes n k (omega arith) c.requires.within c.requires.digits (omega arith) within exponent in
    record { utf8 = c.requires.utf8; within = search rules; text = front.text_is; float = front.float }
