use Rattle.std.proofs.Common.{◌≡◌, ◌≤◌, ◌+◌, ◌-◌, ◌∙◌, ap, length, drop, take, true, arith, sym, length-drop}
use Rattle.std.specs.List.{list_all}
use Rattle.std.specs.Str.Parse.{digits_value}
use Rattle.pp_lexer.specs.Numbers.{is_hex}
use Rattle.pp_lexer.proofs.numbers.PlainNumbersLemmas.{length_whole}
use Rattle.pp_lexer.proofs.numbers.PlainHexLemmas.{plain_hex, plain_hex_unsigned}
use Rattle.pp_lexer.proofs.lexer.plain.number.plain_hex.Goals as goal

pub returns-then-ends_number : goal.returns-then-ends_number
returns-then-ends_number c =
    let bytes = c.args.bytes.now in
    let n = c.hex_length-digits.result in
    let rest : take (length bytes - 2) (drop 2 bytes) ≡ drop 2 bytes = length_whole 2 bytes in
    let within : n ≤ length (drop 2 bytes) = omega (arith, c.hex_length-digits.ensures.within, ap length rest) in
    let passes : list_all is_hex (take n (drop 2 bytes)) ≡ true = ap (λ t. list_all is_hex (take n t)) (sym rest) ∙ c.hex_length-digits.ensures.passes in
    let size : n + 2 - 2 ≡ n = omega arith in
    plain_hex bytes n c.in_ok-value.value c.requires.utf8 c.requires.begins (omega arith) (omega (arith, within, length-drop 2 bytes, c.requires.begins.more))
    within passes (omega arith) (sym (c.in_ok-value.ensures ∙ ap (λ k. digits_value 16 (take k (drop 2 bytes))) size))
    (c.ends_number.ensures c.if-ends_number.true)

pub returns-then-ends_in_suffix : goal.returns-then-ends_in_suffix
returns-then-ends_in_suffix c =
    let bytes = c.args.bytes.now in
    let n = c.hex_length-digits.result in
    let rest : take (length bytes - 2) (drop 2 bytes) ≡ drop 2 bytes = length_whole 2 bytes in
    let within : n ≤ length (drop 2 bytes) = omega (arith, c.hex_length-digits.ensures.within, ap length rest) in
    let passes : list_all is_hex (take n (drop 2 bytes)) ≡ true = ap (λ t. list_all is_hex (take n t)) (sym rest) ∙ c.hex_length-digits.ensures.passes in
    let size : n + 2 - 2 ≡ n = omega arith in
    plain_hex_unsigned bytes n c.in_ok-value.value c.requires.utf8 c.requires.begins (omega arith)
    (omega (arith, within, length-drop 2 bytes, c.requires.begins.more))
    within passes (omega arith) (sym (c.in_ok-value.ensures ∙ ap (λ k. digits_value 16 (take k (drop 2 bytes))) size))
    (c.ends_in_suffix.ensures c.if-ends_in_suffix.true)
