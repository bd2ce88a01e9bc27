use Rattle.std.proofs.Common.{◌≡◌, ◌∙◌, sym, ap, true, false, refl}
use Rattle.pp_lexer.specs.Numbers.{is_decimal, is_hex, is_point, is_zero, is_x, decimal_tail, fraction, is_number, begins_number}
use Rattle.pp_lexer.specs.inner.Numbers.{hex_tail}
use Rattle.pp_lexer.specs.inner.Scan.{upcoming}
use Rattle.pp_lexer.specs.Spellings.{many}
use Rattle.pp_lexer.specs.Surroundings.{begins_with}
use Rattle.pp_lexer.proofs.numbers.NumbersLemmas.{point_number_len, digit_number_len, zero_number_len, after_zero, after_zero_digits, after_zero_hex}
use Rattle.pp_lexer.proofs.numbers.ScanLemmas.{either_then, either_else, either_same}
use Rattle.pp_lexer.proofs.lexer.number.scan.take_longest.Goals as goal

pub returns-then-take_char : goal.returns-then-take_char
returns-then-take_char c =
    either_then is_number fraction is_point _ _ _ _ c.take_char.ensures.test c.take_char.ensures.moved c.if-take_char.true
    (point_number_len _ c.requires) c.take_fraction.ensures

pub returns-then-not-take_char : goal.returns-then-not-take_char
returns-then-not-take_char c =
    let same = either_same _ _ _ c.take_char.ensures.moved c.if-take_char.false in
    let b : begins_number (upcoming c.take_char.new.text) ≡ true = ap (λ s. begins_number (upcoming s)) same ∙ c.requires in
    let p : begins_with is_point (upcoming c.take_char.new.text) ≡ false = ap (λ s. begins_with is_point (upcoming s)) same
    ∙ sym c.take_char.ensures.test ∙ c.if-take_char.false in
    either_else is_number is_number is_point _ _ _ _ c.take_char.ensures.test c.take_char.ensures.moved c.if-take_char.false (λ u. refl)
    (either_else is_number
    (many is_decimal decimal_tail) is_zero _ _ _ _ c.take_char-2.ensures.test c.take_char-2.ensures.moved c.if-not-take_char.true
    (digit_number_len _ b p) c.take_decimal.ensures)

pub returns-then-take_either : goal.returns-then-take_either
returns-then-take_either c =
    either_else is_number is_number is_point _ _ _ _ c.take_char.ensures.test c.take_char.ensures.moved c.if-take_char.false (λ u. refl)
    (either_then is_number after_zero is_zero _ _ _ _ c.take_char-2.ensures.test c.take_char-2.ensures.moved c.if-not-take_char.false (zero_number_len _)
    (either_then after_zero (many is_hex hex_tail) is_x _ _ _ _ c.take_either.ensures.test c.take_either.ensures.moved c.if-take_either.true
    (after_zero_hex _) c.take_hex.ensures))

pub returns : goal.returns
returns c =
    either_else is_number is_number is_point _ _ _ _ c.take_char.ensures.test c.take_char.ensures.moved c.if-take_char.false (λ u. refl)
    (either_then is_number after_zero is_zero _ _ _ _ c.take_char-2.ensures.test c.take_char-2.ensures.moved c.if-not-take_char.false (zero_number_len _)
    (either_else after_zero (many is_decimal decimal_tail) is_x _ _ _ _ c.take_either.ensures.test c.take_either.ensures.moved c.if-take_either.false
    (after_zero_digits _) c.take_decimal-2.ensures))
