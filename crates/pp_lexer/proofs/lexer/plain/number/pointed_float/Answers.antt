use Rattle.std.proofs.Common.{◌≡◌, ◌≤◌, ◌+◌, ◌-◌, ◌∙◌, ap, length, drop, take, true, arith, rules, sym}
use Rattle.std.specs.List.{list_all}
use Rattle.pp_lexer.specs.Numbers.{is_decimal}
use Rattle.pp_lexer.specs.NumberValue.{float_exponent}
use Rattle.pp_lexer.proofs.numbers.PlainNumbersLemmas.{length_whole}
use Rattle.pp_lexer.proofs.numbers.PlainFloatsLemmas.{IsFloatFront, pointed_front}
use Rattle.pp_lexer.proofs.lexer.plain.number.pointed_float.Goals as goal

pub spelled_float-requires : goal.spelled_float-requires
spelled_float-requires c =
    let bytes = c.args.bytes.now in
    let from = c.args.whole + 1 in
    let m = c.digits_length-fraction.result in
    let k = c.exponent_length-exponent.result in
    let rest : take (length bytes - from) (drop from bytes) ≡ drop from bytes = length_whole from bytes in
    let last : take (length bytes - (from + m)) (drop (from + m) bytes) ≡ drop (from + m) bytes = length_whole (from + m) bytes in
    let within : m ≤ length (drop from bytes) = omega (arith, c.digits_length-fraction.ensures.within, ap length rest) in
    let passes : list_all is_decimal (take m (drop from bytes)) ≡ true = ap (λ t. list_all is_decimal (take m t)) (sym rest)
    ∙ c.digits_length-fraction.ensures.passes in
    let exponent : float_exponent (take k (drop (from + m) bytes)) ≡ true = ap (λ t. float_exponent (take k t)) (sym last)
    ∙ c.exponent_length-exponent.ensures.exponent in
    let front : IsFloatFront bytes (from + m + k) =
    pointed_front bytes c.args.whole m k c.requires.within c.requires.point c.requires.digits within passes (omega arith) exponent in
    record { utf8 = c.requires.utf8; within = search rules; text = front.text_is; float = front.float }
