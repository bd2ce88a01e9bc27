-- The numbers of lines have 32 bits, and so their types.
use Rattle.std.proofs.Common.{◌≡◌, ℕ, ℤ, pos, negsuc, ◌+ℤ◌, ◌<◌, ◌≤◌, ◌^◌, ◌-◌, Bool, true, false, if◌then◌else◌, refl, Option, Some, None, arith}
use Rattle.std.specs.Prelude.{nat_lt}
use Rattle.std.proofs.lemmas.Bool.{ltb-true}
use Rattle.std.proofs.Math.Nat.{min-le_right}
use Rattle.pp_lexer.specs.declared.rules.Rules.{Rules}
use Rattle.pp_lexer.specs.declared.token.Integer.{Integer}
use Rattle.pp_model.specs.Numbering.{as_line_number, literal, nearest, number_of, text_number}
use Rattle.pp_model.specs.declared.numbering.Numbering.{Numbering}

pub data IsLineLiteral : Integer → Type 0 where
  short : (signed : Bool) (n : ℕ) (number : Integer) → n < 2 ^ 32 → number ≡ literal signed n → IsLineLiteral number

nearest_within : (most : ℕ) (z : ℤ) → nearest most z ≤ most
nearest_within most (pos n) = min-le_right n most
nearest_within most (negsuc n) = omega arith

type_fits : (signed : Bool) → (if signed then 2 ^ 31 else 2 ^ 32) - 1 < 2 ^ 32
type_fits true = omega arith
type_fits false = omega arith

pub number_is_short : (numbering : Numbering) (line : ℕ) → IsLineLiteral (number_of numbering line)
number_is_short numbering line =
    let most : ℕ = (if numbering.is_signed then 2 ^ 31 else 2 ^ 32) - 1 in
    let within = nearest_within most (pos line +ℤ numbering.offset) in
    let fits = type_fits numbering.is_signed in
    short numbering.is_signed (nearest most (pos line +ℤ numbering.offset)) (number_of numbering line) (omega (arith, within, fits)) refl

in_range : (k n : ℕ) (b : Bool) → nat_lt k (2 ^ 32) ≡ b → (if b then Some k else None) ≡ Some n → n < 2 ^ 32
in_range k n true e is =
    let same : k ≡ n = cc in
    let low : k < 2 ^ 32 = ltb-true k (2 ^ 32) e in
    omega (arith, low, same)
in_range k n false e is = cc

line_number_short : (z : ℤ) (n : ℕ) → as_line_number z ≡ Some n → n < 2 ^ 32
line_number_short (pos k) n e = in_range k n (nat_lt k (2 ^ 32)) refl e
line_number_short (negsuc k) n e = cc

pub text_number_is_short : (rules : Rules) (offset : ℤ) (line : ℕ) (number : Integer) → text_number rules offset line ≡ Some number
    → IsLineLiteral number
text_number_is_short rules offset line number e = by rules.numbers_as_int refl (as_line_number (pos line +ℤ offset)) refl
  where
    by : (b : Bool) → rules.numbers_as_int ≡ b → (found : Option ℕ) → as_line_number (pos line +ℤ offset) ≡ found → IsLineLiteral number
    by true is found at =
        let numbering : Numbering = record { offset = offset; is_signed = true } in
        let there : Some (number_of numbering line) ≡ Some number = rw is at e in
        let same : number ≡ number_of numbering line = cc in
        rw same (number_is_short numbering line)
    by false is (Some n) at =
        let there : Some (literal false n) ≡ Some number = rw (is, at) at e in
        let same : number ≡ literal false n = cc in
        short false n number (line_number_short (pos line +ℤ offset) n at) same
    by false is None at = let there : None ≡ Some number = rw (is, at) at e in cc
