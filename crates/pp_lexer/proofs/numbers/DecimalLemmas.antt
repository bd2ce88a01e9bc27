-- The decimal digits of a number are read as that number.
use Rattle.std.proofs.Common.{◌≡◌, ℕ, ℤ, zero, suc, ◌^◌, ◌<◌, List, [], ◌∷◌, ◌++◌, length, get_or, Bool, true, false, not, ◌&&◌, append_assoc, length-append, refl, ◌∙◌, ap, arith, Ok, Some}
use Rattle.std.specs.Char.{digit_value}
use Rattle.std.specs.Fmt.{decimal}
use Rattle.std.specs.List.{list_all, list_any}
use Rattle.std.specs.Str.Parse.{AllDigits, digits_value_after}
use Rattle.std.proofs.lemmas.Bool.{and_right, and_parts, lt-ltb, ne_eqb, and_from}
use Rattle.std.proofs.lemmas.Fmt.{decimal_is_IsNumeral, decimal_digit, first_decimal}
use Rattle.pp_lexer.specs.declared.rules.Rules.{Rules}
use Rattle.pp_lexer.specs.declared.token.Integer.{Integer as IntegerLiteral}
use Rattle.pp_lexer.specs.declared.lexer.item.TokenValue.TheVariants.{Integer}
use Rattle.pp_lexer.specs.Numbers.{is_zero, is_x, is_decimal, is_number}
use Rattle.pp_lexer.specs.NumberValue.{begins_hex, begins_octal, whole, integer_value, integer_outcome, number_outcome}
use Rattle.pp_lexer.specs.inner.NumberValue.{is_float_mark}
use Rattle.pp_lexer.specs.Respelling.{IsWidth}
use Rattle.pp_lexer.specs.Spelling.{integer_letters, integer_literal}
use Rattle.pp_lexer.specs.Spellings.{after_first}
use Rattle.pp_lexer.specs.Surroundings.{begins_with}
use Rattle.pp_lexer.specs.Words.{word_at}
use Rattle.pp_lexer.proofs.numbers.NumbersLemmas.{either_apart, e_apart, point_apart}
use Rattle.pp_lexer.proofs.numbers.NumberSetsLemmas.{decimal_number}
use Rattle.pp_lexer.proofs.words.SetsLemmas.{all_many}
use Rattle.pp_lexer.proofs.spelling.SpelledWordLemmas.{IsBreak, spelled_number}
use Rattle.pp_lexer.proofs.spelling.SuffixSpellingLemmas.{integer_ends, integer_unrefused}

-- the digits of a number below 2^64, without a zero at their front unless it is all
pub record IsDecimalText (n : ℕ) (w : List ℕ) : Type 0 where
  pub small : n < 2 ^ 64
  pub some : 0 < length w
  pub digits : list_all is_decimal w ≡ true
  pub value : digits_value_after 10 0 w ≡ n
  pub no_octal : begins_octal w ≡ false

all_decimal : (w : List ℕ) → AllDigits 10 w → list_all is_decimal w ≡ true
all_decimal [] h = refl
all_decimal (c ∷ w) h = and_from (is_decimal c) (list_all is_decimal w) (lt-ltb (digit_value c) 10 h.0) (all_decimal w h.1)

no_octal_above : (w : List ℕ) → 48 < get_or w 0 0 → begins_octal w ≡ false
no_octal_above [] h = refl
no_octal_above (c ∷ w) h = ap (λ b. b && begins_with is_decimal w) (ne_eqb c 48 (λ e. omega arith))

no_octal_decimal : (n : ℕ) → n < 2 ^ 64 → begins_octal (decimal n) ≡ false
no_octal_decimal zero h = ap begins_octal (decimal_digit 0 (omega arith))
no_octal_decimal (suc n) h = no_octal_above (decimal (suc n)) (first_decimal (suc n) (omega arith) h)

-- what `decimal` writes
pub decimal_text : (n : ℕ) → n < 2 ^ 64 → IsDecimalText n (decimal n)
decimal_text n h =
    let k = decimal_is_IsNumeral n h in
    record { small = h; some = k.0.0; digits = all_decimal (decimal n) k.0.1; value = k.1; no_octal = no_octal_decimal n h }

-- what digits are not

no_mark : (hex : Bool) (c : ℕ) → is_decimal c ≡ true → is_float_mark hex c ≡ false
no_mark hex c d = rw (point_apart c d, e_apart c d) (and_right (not hex) false refl)

no_marks : (hex : Bool) (w : List ℕ) → list_all is_decimal w ≡ true → list_any (is_float_mark hex) w ≡ false
no_marks hex [] h = refl
no_marks hex (c ∷ w) h = let b = and_parts (is_decimal c) (list_all is_decimal w) h in rw (no_mark hex c b.0) (no_marks hex w b.1)

no_x : (w : List ℕ) → list_all is_decimal w ≡ true → begins_with is_x (after_first w) ≡ false
no_x w h = grind (arith, and_parts, either_apart)

no_hex : (w : List ℕ) → list_all is_decimal w ≡ true → begins_hex w ≡ false
no_hex w h = and_right (begins_with is_zero w) (begins_with is_x (after_first w)) (no_x w h)

digits_number : (w : List ℕ) → 0 < length w → list_all is_decimal w ≡ true → is_number w ≡ true
digits_number w h k = grind (arith, decimal_number, all_many)

module _ (n : ℕ) (w : List ℕ) (t : IsDecimalText n w) where
  digits_whole : whole 10 w ≡ Some n
  digits_whole = grind arith

  pub digits_value : (signed : Bool) (width : ℤ)
      → integer_value signed width w ≡ Ok (Integer (record { value = n; signed = signed; width = width }))
  digits_value signed width = grind (arith, digits_whole)

  pub digits_outcome : (rules : Rules) (cs : List ℕ) → number_outcome rules w cs ≡ integer_outcome rules w cs
  digits_outcome rules cs = rw (no_marks (begins_hex w) w t.digits) refl

-- an integer is read back with its mark and its width
pub spelled_integer : (rules : Rules) (i : IntegerLiteral) (cs : List ℕ) → i.value < 2 ^ 64 → IsWidth rules i.width → IsBreak cs
    → word_at rules (integer_literal i ++ cs) ≡ record { value = Ok (Integer i); taken = length (integer_literal i) }
spelled_integer rules i cs h e b =
    let w : List ℕ = decimal i.value in
    let t : IsDecimalText i.value w = decimal_text i.value h in
    let letters : List ℕ = integer_letters i.signed i.width in
    let end = integer_ends rules cs b i.signed i.width e in
    ap (word_at rules) (append_assoc w letters cs)
    ∙ spelled_number rules w (letters ++ cs) (digits_number w t.some t.digits) end.ends
    ∙ digits_outcome i.value w t rules (letters ++ cs)
    ∙ rw (end.suffix, end.sign, integer_unrefused rules cs b letters, digits_value i.value w t i.signed i.width, length-append w letters) refl
