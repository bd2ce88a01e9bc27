-- Decimal integers at the front of a plain text.
use Rattle.std.proofs.Common.{pow-suc, ◌≡◌, ℕ, zero, suc, ◌+◌, ◌-◌, ◌*◌, ◌^◌, ◌<◌, ◌≤◌, List, [], ◌∷◌, ◌++◌, length, take, drop, get_or, Bool, true, false, ◌&&◌, ◌||◌, ◌==◌, append_assoc, length-drop, add-one, add-zero, refl, sym, ◌∙◌, ap, arith, Ok, pos}
use Rattle.std.specs.List.{list_all}
use Rattle.std.specs.Str.{IsUtf8}
use Rattle.std.specs.Str.Parse.{digits_value_after}
use Rattle.std.specs.Char.{digit_value}
use Rattle.std.proofs.Math.Nat.{pow-le-pow_right}
use Rattle.std.proofs.lemmas.Int.Digits.{digits_value_more}
use Rattle.std.proofs.lemmas.Bool.{and_parts, eqb-true, and_from}
use Rattle.std.proofs.lemmas.Bool.Decides.{nat_tests}
use Rattle.std.proofs.lemmas.List.{length-take-le, drop_at}
use Rattle.pp_lexer.specs.declared.rules.Rules.{Rules}
use Rattle.pp_lexer.specs.declared.lexer.item.TokenValue.TheVariants.{Integer}
use Rattle.pp_lexer.specs.inner.Fronts.{is_plain}
use Rattle.pp_lexer.specs.Longest.{longest}
use Rattle.pp_lexer.specs.Numbers.{is_zero, is_x, is_point, is_e, is_decimal, decimal_tail, fraction, is_number, begins_number}
use Rattle.pp_lexer.specs.NumberValue.{is_l, is_h, is_s, is_f, is_u, begins_octal, number_outcome, number_at}
use Rattle.pp_lexer.specs.inner.PlainWords.{continues_number, Stops, IsSuffixed, IsPlainWord}
use Rattle.pp_lexer.specs.Spellings.{many}
use Rattle.pp_lexer.specs.Surroundings.{begins_with}
use Rattle.pp_lexer.specs.Words.{is_blank, word_at}
use Rattle.pp_lexer.proofs.numbers.DecimalLemmas.{IsDecimalText, digits_value, digits_outcome}
use Rattle.pp_lexer.proofs.numbers.SuffixesLemmas.{integer_alone, integer_unsigned}
use Rattle.pp_lexer.proofs.numbers.NumbersLemmas.{point_apart, either_apart, decimal_len, fraction_len, exponent_none, decimal_tail_none, digit_number_len, zero_number_len, after_zero_digits}
use Rattle.pp_lexer.proofs.characters.PlainFrontsLemmas.{all_plain, front_len-append, take_seam}
use Rattle.pp_lexer.proofs.words.PlainWordsLemmas.{plain_before}
use Rattle.pp_lexer.proofs.words.WordAtLemmas.{number_first}

-- what the character after a number is not

pub ends_class : (p : ℕ → Bool) → ((c : ℕ) → continues_number c ≡ false → p c ≡ false) → (cs : List ℕ) → begins_with continues_number cs ≡ false
    → begins_with p cs ≡ false
ends_class p f [] h = refl
ends_class p f (c ∷ cs) h = f c h

no_decimal : (c : ℕ) → continues_number c ≡ false → is_decimal c ≡ false
no_decimal c h = grind (arith, nat_tests)

pub no_point : (c : ℕ) → continues_number c ≡ false → is_point c ≡ false
no_point c h = grind arith

no_e : (c : ℕ) → continues_number c ≡ false → is_e c ≡ false
no_e c h = grind arith

no_x : (c : ℕ) → continues_number c ≡ false → is_x c ≡ false
no_x c h = grind arith

pub no_l : (c : ℕ) → continues_number c ≡ false → is_l c ≡ false
no_l c h = grind arith

pub no_h : (c : ℕ) → continues_number c ≡ false → is_h c ≡ false
no_h c h = grind arith

pub no_s : (c : ℕ) → continues_number c ≡ false → is_s c ≡ false
no_s c h = grind arith

pub no_f : (c : ℕ) → continues_number c ≡ false → is_f c ≡ false
no_f c h = grind arith

pub no_u : (c : ℕ) → continues_number c ≡ false → is_u c ≡ false
no_u c h = grind arith

-- how long a number is, by its digits

pub drop_front : (n : ℕ) (w cs : List ℕ) → n ≡ length w → drop n (w ++ cs) ≡ cs
drop_front n w cs e = drop_at w cs n (sym e)

module _ (cs : List ℕ) (h : begins_with is_decimal cs ≡ false) where
  pub digits_len : (w : List ℕ) → list_all is_decimal w ≡ true → longest (many is_decimal decimal_tail) (w ++ cs) ≡ length w + longest decimal_tail cs
  digits_len w d = grind (arith, front_len-append, decimal_len, drop_front)

  pub fraction_of : (w : List ℕ) → list_all is_decimal w ≡ true → begins_with is_e cs ≡ false → longest fraction (w ++ cs) ≡ length w
  fraction_of w d e = grind (arith, front_len-append, fraction_len, drop_front, exponent_none)

  no_x_after : (w : List ℕ) → list_all is_decimal w ≡ true → begins_with is_x cs ≡ false → begins_with is_x (w ++ cs) ≡ false
  no_x_after [] d x = x
  no_x_after (c ∷ w) d x = either_apart 120 88 10 refl refl c (and_parts (is_decimal c) (list_all is_decimal w) d).0

  -- digits, and what may follow them
  number_len : (c : ℕ) (w : List ℕ) → is_decimal c ≡ true → list_all is_decimal w ≡ true → begins_with is_x cs ≡ false
      → longest is_number ((c ∷ w) ++ cs) ≡ suc (length w) + longest decimal_tail cs
  number_len c w d all x = by (is_zero c) refl
    where
      begins : begins_number ((c ∷ w) ++ cs) ≡ true
      begins = ap (λ b. b || (is_point c && begins_with is_decimal (w ++ cs))) d

      by : (b : Bool) → is_zero c ≡ b → longest is_number ((c ∷ w) ++ cs) ≡ suc (length w) + longest decimal_tail cs
      by true z =
          let more = digits_len w all in
          let after = after_zero_digits (w ++ cs) (no_x_after w all x) in
          let first = zero_number_len ((c ∷ w) ++ cs) z in
          first ∙ ap (λ k. 1 + k) (after ∙ more) ∙ omega arith
      by false z = digit_number_len ((c ∷ w) ++ cs) begins (point_apart c d) z ∙ digits_len (c ∷ w) (and_from (is_decimal c) (list_all is_decimal w) d all)

-- a number of that many characters
pub number_of : (rules : Rules) (w cs : List ℕ) → begins_number (w ++ cs) ≡ true → longest is_number (w ++ cs) ≡ length w
    → word_at rules (w ++ cs) ≡ number_outcome rules w cs
unfolding number_at
number_of rules w cs b n = grind (arith, number_first, take_seam, drop_front)

-- Integers

-- no number goes on here
pub record NoMore (cs : List ℕ) : Type 0 where
  pub decimal : begins_with is_decimal cs ≡ false
  pub x : begins_with is_x cs ≡ false
  pub point : begins_with is_point cs ≡ false
  pub mark : begins_with is_e cs ≡ false

digits_word : (rules : Rules) (cs w : List ℕ) → NoMore cs → 0 < length w → list_all is_decimal w ≡ true
    → word_at rules (w ++ cs) ≡ number_outcome rules w cs
digits_word rules cs w h k e = grind (arith, and_parts, decimal_tail_none, exponent_none, number_of, number_len, add-zero)

-- a suffix letter, each also as a capital

pub either_letter : (P : ℕ → Type 0) (c a b : ℕ) → ((c == a) || (c == b)) ≡ true → P a → P b → P c
either_letter P c a b h x y = grind arith

unsigned_ends : (u : ℕ) (cs : List ℕ) → is_u u ≡ true → NoMore (u ∷ cs)
unsigned_ends u cs h = grind arith

module _ (cs : List ℕ) (h : begins_with continues_number cs ≡ false) where
  pub ended : NoMore cs
  ended = grind (arith, no_decimal, no_x, no_point, no_e)

  integer_at : (rules : Rules) (n : ℕ) (w : List ℕ) → IsDecimalText n w → word_at rules (w ++ cs) ≡ record {
    value =
        Ok (Integer (record { value = n; signed = true; width = pos 32 }));
    taken = length w;
  }
  integer_at rules n w t = digits_word rules cs w ended t.some t.digits ∙ digits_outcome n w t rules cs
      ∙ integer_alone rules w cs _ (ends_class is_l no_l cs h) (digits_value n w t true (pos 32)) (ends_class is_s no_s cs h)
      (ends_class is_u no_u cs h)

  unsigned_at : (rules : Rules) (n u : ℕ) (w : List ℕ) → IsDecimalText n w → is_u u ≡ true
      → word_at rules ((w ++ u ∷ []) ++ cs)
      ≡ record { value = Ok (Integer (record { value = n; signed = false; width = pos 32 })); taken = length w + 1 }
  unsigned_at rules n u w t e =
      ap (word_at rules) (append_assoc w (u ∷ []) cs) ∙ digits_word rules (u ∷ cs) w (unsigned_ends u cs e) t.some t.digits
      ∙ digits_outcome n w t rules (u ∷ cs)
      ∙ integer_unsigned rules w cs _ (ends_class is_l no_l cs h) u (digits_value n w t false (pos 32)) (ends_class is_s no_s cs h) e

pub take_whole : (n : ℕ) (xs : List ℕ) → length xs ≤ n → take n xs ≡ xs
take_whole zero [] h = refl
take_whole zero (x ∷ xs) h = absurd (omega arith)
take_whole (suc n) [] h = refl
take_whole (suc n) (x ∷ xs) h = ap (λ t. x ∷ t) (take_whole n xs (omega arith))

-- what a range to the end holds
pub length_whole : (n : ℕ) (xs : List ℕ) → take (length xs - n) (drop n xs) ≡ drop n xs
length_whole n xs = take_whole (length xs - n) (drop n xs) (omega (arith, length-drop n xs))

-- the value of one digit more
digit_is : (c : ℕ) → is_decimal c ≡ true → (48 ≤ c) × (digit_value c ≡ c - 48)
digit_is c h = grind arith

decimal_below : (c : ℕ) → is_decimal c ≡ true → c < 58
decimal_below c h = grind arith

pub all_at : (p : ℕ → Bool) (n : ℕ) (xs : List ℕ) → n < length xs → list_all p xs ≡ true → p (get_or xs n 0) ≡ true
all_at p n [] l h = absurd (omega arith)
all_at p zero (x ∷ xs) l h = (and_parts (p x) (list_all p xs) h).0
all_at p (suc n) (x ∷ xs) l h = all_at p n xs (omega arith) (and_parts (p x) (list_all p xs) h).1

pub digit_at : (n : ℕ) (xs : List ℕ) → n < length xs → list_all is_decimal xs ≡ true → (48 ≤ get_or xs n 0) × (digit_value (get_or xs n 0) ≡ get_or xs n 0 - 48)
digit_at n xs l h = digit_is (get_or xs n 0) (all_at is_decimal n xs l h)

pub value_more : (n value more : ℕ) (xs : List ℕ) → n < length xs → list_all is_decimal xs ≡ true → value ≡ digits_value_after 10 0 (take n xs)
    → more ≡ value * 10 + (get_or xs n 0 - 48)
    → more ≡ digits_value_after 10 0 (take (n + 1) xs)
value_more n value more xs l h e k = grind (arith, digit_at, digits_value_more)

pub decimal_below_at : (n : ℕ) (xs : List ℕ) → n < length xs → list_all is_decimal xs ≡ true → get_or xs n 0 < 58
decimal_below_at n xs l h = decimal_below (get_or xs n 0) (all_at is_decimal n xs l h)

-- one digit more
pub small_more : (n value : ℕ) (xs : List ℕ) → n < length xs → list_all is_decimal xs ≡ true → value < 10 ^ n
    → value * 10 + (get_or xs n 0 - 48) < 10 ^ (n + 1)
small_more n value xs l h k =
    let digit : get_or xs n 0 < 58 = decimal_below_at n xs l h in
    let more : 10 ^ (n + 1) ≡ 10 ^ n * 10 = ap (λ m. 10 ^ m) (add-one n) ∙ pow-suc 10 n in
    omega (arith, digit, more)

-- a number of at most 18 digits
pub eighteen_digits : (n value : ℕ) → n ≤ 18 → value < 10 ^ n → value < 10 ^ 18
eighteen_digits n value le h =
    let more : 10 ^ n ≤ 10 ^ 18 = pow-le-pow_right (omega arith) le in
    omega (arith, more)

pub decimal_plain : (c : ℕ) → is_decimal c ≡ true → is_plain c ≡ true
decimal_plain c h = grind (arith, nat_tests)

decimal_no_blank : (c : ℕ) → is_decimal c ≡ true → is_blank c ≡ false
decimal_no_blank c h = grind (arith, nat_tests)

first_decimal : (n : ℕ) (text : List ℕ) → 0 < n → n ≤ length text → list_all is_decimal (take n text) ≡ true → is_decimal (get_or text 0 0) ≡ true
first_decimal n text h k e = grind arith

-- one digit, or no zero first
no_octal : (n : ℕ) (text : List ℕ) → n ≤ length text → (get_or text 0 0 ≡ 48 → n ≤ 1) → begins_octal (take n text) ≡ false
no_octal zero text le h = refl
no_octal (suc n) [] le h = refl
no_octal (suc n) (c ∷ text) le h = by (c == 48) refl n h
  where
    by : (b : Bool) → (c == 48) ≡ b → (n : ℕ) → (c ≡ 48 → suc n ≤ 1) → begins_octal (take (suc n) (c ∷ text)) ≡ false
    by false e n h = ap (λ b. b && begins_with is_decimal (take n text)) e
    by true e zero h = rw e refl
    by true e (suc n) h = absurd (omega (arith, h (eqb-true c 48 e)))

pub plain_integer : (text : List ℕ) (n value : ℕ) → IsUtf8 text → 0 < n → n ≤ length text → list_all is_decimal (take n text) ≡ true
    → (get_or text 0 0 ≡ 48 → n ≤ 1) → value < 2 ^ 64
    → digits_value_after 10 0 (take n text) ≡ value → Stops continues_number text n
    → IsPlainWord text (Integer (record { value = value; signed = true; width = pos 32 })) n
plain_integer text n value u some le digits octal small e stops =
    let size : length (take n text) ≡ n = length-take-le n text le in
    let t : IsDecimalText value (take n text) = record { small = small; some = omega arith; digits = digits; value = e; no_octal = no_octal n text le octal } in
    plain_before continues_number refl refl text n u some le stops (Integer (record { value = value; signed = true; width = pos 32 }))
    (all_plain is_decimal decimal_plain (take n text) digits)
    (decimal_no_blank (get_or text 0 0) (first_decimal n text some le digits)) refl
    (λ rules cs h. integer_at cs h rules value (take n text) t
    ∙ ap (λ k. record { value = Ok (Integer (record { value = value; signed = true; width = pos 32 })); taken = k }) size)

-- a front with the character after it
pub take_more : (n : ℕ) (text : List ℕ) → n < length text → take (n + 1) text ≡ take n text ++ get_or text n 0 ∷ []
take_more n text l = ap (λ k. take k text) (add-one n) ∙ by n text l
  where
    by : (n : ℕ) (text : List ℕ) → n < length text → take (suc n) text ≡ take n text ++ get_or text n 0 ∷ []
    by n [] l = absurd (omega arith)
    by zero (c ∷ []) l = refl
    by zero (c ∷ d ∷ text) l = refl
    by (suc n) (c ∷ text) l = ap (λ t. c ∷ t) (by n text (omega arith))

pub plain_more : (c : ℕ) (w : List ℕ) → list_all is_plain w ≡ true → is_plain c ≡ true → list_all is_plain (w ++ c ∷ []) ≡ true
plain_more c [] h p = ap (λ t. t && true) p
plain_more c (d ∷ w) h p =
    let b = and_parts (is_plain d) (list_all is_plain w) h in
    and_from (is_plain d) (list_all is_plain (w ++ c ∷ [])) b.0 (plain_more c w b.1 p)

pub plain_unsigned : (text : List ℕ) (n value : ℕ) → IsUtf8 text → 0 < n → n ≤ length text → list_all is_decimal (take n text) ≡ true
    → (get_or text 0 0 ≡ 48 → n ≤ 1) → value < 2 ^ 64
    → digits_value_after 10 0 (take n text) ≡ value → IsSuffixed 117 85 text n
    → IsPlainWord text (Integer (record { value = value; signed = false; width = pos 32 })) (n + 1)
plain_unsigned text n value u some le digits octal small e suffix =
    let size : length (take n text) ≡ n = length-take-le n text le in
    let t : IsDecimalText value (take n text) = record { small = small; some = omega arith; digits = digits; value = e; no_octal = no_octal n text le octal } in
    let letter = get_or text n 0 in
    let more : take (n + 1) text ≡ take n text ++ letter ∷ [] = take_more n text suffix.within in
    let plain : is_plain letter ≡ true = either_letter (λ c. is_plain c ≡ true) letter 117 85 suffix.letter refl refl in
    plain_before continues_number refl refl text (n + 1) u (omega arith) (omega (arith, suffix.within)) suffix.stops
    (Integer (record { value = value; signed = false; width = pos 32 }))
    (ap (list_all is_plain) more ∙ plain_more letter (take n text) (all_plain is_decimal decimal_plain (take n text) digits) plain)
    (decimal_no_blank (get_or text 0 0) (first_decimal n text some le digits)) refl
    (λ rules cs h. ap (λ x. word_at rules (x ++ cs)) more ∙ unsigned_at cs h rules value letter (take n text) t suffix.letter
    ∙ ap (λ k. record { value = Ok (Integer (record { value = value; signed = false; width = pos 32 })); taken = k + 1 }) size)
