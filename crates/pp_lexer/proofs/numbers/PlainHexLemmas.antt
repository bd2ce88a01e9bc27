-- Hexadecimal integers at the front of a plain text.
use Rattle.std.proofs.Common.{◌≡◌, ℕ, ℤ, ◌+◌, ◌*◌, ◌^◌, ◌<◌, ◌≤◌, List, [], ◌∷◌, ◌++◌, length, take, drop, get_or, Bool, true, false, append_assoc, add-zero, refl, sym, ◌∙◌, ap, arith, Ok, Some, pos}
use Rattle.std.specs.List.{list_all, list_any}
use Rattle.std.specs.Char.{digit_value}
use Rattle.std.specs.Str.{IsUtf8}
use Rattle.std.specs.Str.Parse.{digits_value_after}
use Rattle.std.proofs.lemmas.Int.Digits.{digits_value_more}
use Rattle.std.proofs.lemmas.Bool.{and_parts, and_from}
use Rattle.std.proofs.lemmas.Bool.Decides.{nat_tests}
use Rattle.std.proofs.lemmas.List.{length-take-le}
use Rattle.pp_lexer.specs.declared.rules.Rules.{Rules}
use Rattle.pp_lexer.specs.declared.lexer.item.TokenValue.TheVariants.{Integer}
use Rattle.pp_lexer.specs.inner.Fronts.{is_plain}
use Rattle.pp_lexer.specs.inner.Numbers.{hex_tail}
use Rattle.pp_lexer.specs.inner.NumberValue.{is_float_mark}
use Rattle.pp_lexer.specs.inner.PlainWords.{continues_number, Stops, IsSuffixed, BeginsHex, IsPlainWord}
use Rattle.pp_lexer.specs.Longest.{longest, front_len}
use Rattle.pp_lexer.specs.Numbers.{is_x, is_hex, is_point, is_number}
use Rattle.pp_lexer.specs.NumberValue.{is_l, is_u, is_s, begins_hex, whole, integer_value, integer_outcome, number_outcome}
use Rattle.pp_lexer.specs.Spellings.{many}
use Rattle.pp_lexer.specs.Surroundings.{begins_with}
use Rattle.pp_lexer.specs.Words.{is_blank, word_at}
use Rattle.pp_lexer.proofs.numbers.NumbersLemmas.{hex_point_apart, zero_number_len, after_zero_hex, hex_len, hex_tail_none}
use Rattle.pp_lexer.proofs.numbers.PlainNumbersLemmas.{ends_class, number_of, no_point, no_l, no_u, no_s, drop_front, either_letter, take_more, plain_more}
use Rattle.pp_lexer.proofs.numbers.SuffixesLemmas.{integer_alone, integer_unsigned}
use Rattle.pp_lexer.proofs.characters.PlainFrontsLemmas.{all_plain, front_len-append}
use Rattle.pp_lexer.proofs.words.PlainWordsLemmas.{plain_before}

no_hex : (c : ℕ) → continues_number c ≡ false → is_hex c ≡ false
no_hex c h = grind (arith, nat_tests)

hex_plain : (c : ℕ) → is_hex c ≡ true → is_plain c ≡ true
hex_plain c h = grind (arith, nat_tests)

-- no hexadecimal number goes on here
record NoHexMore (cs : List ℕ) : Type 0 where
  hex : begins_with is_hex cs ≡ false
  point : begins_with is_point cs ≡ false

-- the digits of a number below 2^64 after `0x`
record IsHexText (n x : ℕ) (w : List ℕ) : Type 0 where
  small : n < 2 ^ 64
  some : 0 < length w
  letter : is_x x ≡ true
  digits : list_all is_hex w ≡ true
  value : digits_value_after 16 0 w ≡ n

no_marks : (w : List ℕ) → list_all is_hex w ≡ true → list_any (is_float_mark true) w ≡ false
no_marks [] h = refl
no_marks (c ∷ w) h = let b = and_parts (is_hex c) (list_all is_hex w) h in rw (hex_point_apart c b.0) (no_marks w b.1)

module _ (n x : ℕ) (w : List ℕ) (t : IsHexText n x w) where
  word_len : (cs : List ℕ) → NoHexMore cs → longest is_number ((48 ∷ x ∷ w) ++ cs) ≡ length (48 ∷ x ∷ w)
  word_len cs e =
      let d : front_len is_hex (w ++ cs) ≡ length w = front_len-append is_hex w cs t.digits e.hex in
      let tail : longest hex_tail (drop (front_len is_hex (w ++ cs)) (w ++ cs)) ≡ 0 =
      ap (longest hex_tail) (drop_front (front_len is_hex (w ++ cs)) w cs d) ∙ hex_tail_none cs e.point in
      let digits : longest (many is_hex hex_tail) (w ++ cs) ≡ length w =
      hex_len (w ++ cs) ∙ ap (λ k. front_len is_hex (w ++ cs) + k) tail ∙ add-zero (front_len is_hex (w ++ cs)) ∙ d in
      zero_number_len ((48 ∷ x ∷ w) ++ cs) refl ∙ ap (λ k. 1 + k) (after_zero_hex (x ∷ (w ++ cs)) t.letter) ∙ ap (λ k. 1 + (1 + k)) digits ∙ omega arith

  hex_word : (rules : Rules) (cs : List ℕ) → NoHexMore cs → word_at rules ((48 ∷ x ∷ w) ++ cs) ≡ number_outcome rules (48 ∷ x ∷ w) cs
  hex_word rules cs e = number_of rules (48 ∷ x ∷ w) cs refl (word_len cs e)

-- no float
no_float : (rules : Rules) (u cs : List ℕ) → list_any (is_float_mark (begins_hex u)) u ≡ false
    → number_outcome rules u cs ≡ integer_outcome rules u cs
no_float rules u cs e = rw e refl

marks : (b : Bool) (x : ℕ) (w : List ℕ) → b ≡ true → is_x x ≡ true → list_all is_hex w ≡ true → list_any (is_float_mark b) (48 ∷ x ∷ w) ≡ false
marks false x w e l h = cc
marks true x w e l h = either_letter (λ c. list_any (is_float_mark true) (48 ∷ c ∷ w) ≡ false) x 120 88 l (no_marks w h) (no_marks w h)

-- the digits are those of the base
hex_whole : (n : ℕ) (w : List ℕ) → n < 2 ^ 64 → 0 < length w → list_all is_hex w ≡ true → digits_value_after 16 0 w ≡ n → whole 16 w ≡ Some n
hex_whole n w h k e l = grind arith

hex_integer : (n : ℕ) (u w : List ℕ) (signed : Bool) (width : ℤ) → begins_hex u ≡ true → drop 2 u ≡ w → whole 16 w ≡ Some n
    → integer_value signed width u ≡ Ok (Integer (record { value = n; signed = signed; width = width }))
hex_integer n u w signed width h d e = grind arith

-- a spelling that is read as this integer
record IsHexWord (n : ℕ) (u : List ℕ) : Type 0 where
  word : (rules : Rules) (cs : List ℕ) → NoHexMore cs → word_at rules (u ++ cs) ≡ integer_outcome rules u cs
  value : (signed : Bool) (width : ℤ)
      → integer_value signed width u ≡ Ok (Integer (record { value = n; signed = signed; width = width }))

hex_read : (n x : ℕ) (w : List ℕ) → IsHexText n x w → IsHexWord n (48 ∷ x ∷ w)
hex_read n x w t = record {
  word = λ rules cs e. hex_word n x w t rules cs e ∙ no_float rules (48 ∷ x ∷ w) cs (marks (begins_hex (48 ∷ x ∷ w)) x w t.letter t.letter t.digits);
  value = λ signed width. hex_integer n (48 ∷ x ∷ w) w signed width t.letter refl (hex_whole n w t.small t.some t.digits t.value);
}

hex_unsigned_ends : (u : ℕ) (cs : List ℕ) → is_u u ≡ true → NoHexMore (u ∷ cs)
hex_unsigned_ends u cs h =
    either_letter (λ c. NoHexMore (c ∷ cs)) u 117 85 h (record { hex = refl; point = refl }) (record { hex = refl; point = refl })

module _ (cs : List ℕ) (h : begins_with continues_number cs ≡ false) (n : ℕ) (w : List ℕ) (t : IsHexWord n w) where
  hex_at : (rules : Rules)
      → word_at rules (w ++ cs) ≡ record { value = Ok (Integer (record { value = n; signed = true; width = pos 32 })); taken = length w }
  hex_at rules =
      t.word rules cs (record { hex = ends_class is_hex no_hex cs h; point = ends_class is_point no_point cs h })
      ∙ integer_alone rules w cs _ (ends_class is_l no_l cs h) (t.value true (pos 32)) (ends_class is_s no_s cs h) (ends_class is_u no_u cs h)

  hex_unsigned_at : (rules : Rules) (u : ℕ) → is_u u ≡ true
      → word_at rules ((w ++ u ∷ []) ++ cs)
      ≡ record { value = Ok (Integer (record { value = n; signed = false; width = pos 32 })); taken = length w + 1 }
  hex_unsigned_at rules u e =
      ap (word_at rules) (append_assoc w (u ∷ []) cs) ∙ t.word rules (u ∷ cs) (hex_unsigned_ends u cs e)
      ∙ integer_unsigned rules w cs _ (ends_class is_l no_l cs h) u (t.value false (pos 32)) (ends_class is_s no_s cs h) e

hex_split : (n : ℕ) (text : List ℕ) → BeginsHex text → take (n + 2) text ≡ 48 ∷ get_or text 1 0 ∷ take n (drop 2 text)
hex_split n text h = grind arith

hex_no_blank : (text : List ℕ) → BeginsHex text → is_blank (get_or text 0 0) ≡ false
hex_no_blank text b = ap is_blank b.zero

x_plain : (x : ℕ) → is_x x ≡ true → is_plain x ≡ true
x_plain x h = either_letter (λ c. is_plain c ≡ true) x 120 88 h refl refl

hex_all_plain : (x : ℕ) (w : List ℕ) → is_x x ≡ true → list_all is_hex w ≡ true → list_all is_plain (48 ∷ x ∷ w) ≡ true
hex_all_plain x w l h = and_from (is_plain x) (list_all is_plain w) (x_plain x l) (all_plain is_hex hex_plain w h)

module _ (text : List ℕ) (n value : ℕ) (u : IsUtf8 text) (b : BeginsHex text) (some : 0 < n) (within : n + 2 ≤ length text)
    (le : n ≤ length (drop 2 text)) (digits : list_all is_hex (take n (drop 2 text)) ≡ true) (small : value < 2 ^ 64)
    (e : digits_value_after 16 0 (take n (drop 2 text)) ≡ value) where
  read : IsHexWord value (take (n + 2) text)
  read = grind (arith, length-take-le, hex_split, hex_read)

  plain : list_all is_plain (take (n + 2) text) ≡ true
  plain = ap (list_all is_plain) (hex_split n text b) ∙ hex_all_plain (get_or text 1 0) (take n (drop 2 text)) b.letter digits

  pub plain_hex : Stops continues_number text (n + 2)
      → IsPlainWord text (Integer (record { value = value; signed = true; width = pos 32 })) (n + 2)
  plain_hex stops =
      plain_before continues_number refl refl text (n + 2) u (omega arith) within stops (Integer (record { value = value; signed = true; width = pos 32 }))
      plain (hex_no_blank text b) refl
      (λ rules cs h. hex_at cs h value (take (n + 2) text) read rules
      ∙ ap (λ k. record { value = Ok (Integer (record { value = value; signed = true; width = pos 32 })); taken = k }) (length-take-le (n + 2) text within))

  pub plain_hex_unsigned : IsSuffixed 117 85 text (n + 2)
      → IsPlainWord text (Integer (record { value = value; signed = false; width = pos 32 })) (n + 2 + 1)
  plain_hex_unsigned suffix =
      let letter = get_or text (n + 2) 0 in
      let more : take (n + 2 + 1) text ≡ take (n + 2) text ++ letter ∷ [] = take_more (n + 2) text suffix.within in
      let is : is_plain letter ≡ true = either_letter (λ c. is_plain c ≡ true) letter 117 85 suffix.letter refl refl in
      plain_before continues_number refl refl text (n + 2 + 1) u (omega arith) (omega (arith, suffix.within)) suffix.stops
      (Integer (record { value = value; signed = false; width = pos 32 }))
      (ap (list_all is_plain) more ∙ plain_more letter (take (n + 2) text) plain is) (hex_no_blank text b) refl
      (λ rules cs h. ap (λ t. word_at rules (t ++ cs)) more ∙ hex_unsigned_at cs h value (take (n + 2) text) read rules letter suffix.letter
      ∙ ap (λ k. record { value = Ok (Integer (record { value = value; signed = false; width = pos 32 })); taken = k + 1 }) (length-take-le (n + 2) text within))

-- one digit more
pub hex_more : (n value digit more : ℕ) (xs : List ℕ) → n < length xs → value ≡ digits_value_after 16 0 (take n xs)
    → digit ≡ digit_value (get_or xs n 0) → more ≡ value * 16 + digit → more ≡ digits_value_after 16 0 (take (n + 1) xs)
hex_more n value digit more xs l e d k =
    k ∙ ap (λ v. v * 16 + digit) e ∙ ap (λ v. digits_value_after 16 0 (take n xs) * 16 + v) d ∙ sym (digits_value_more 16 xs n l)
