-- Floats at the front of a plain text.
use Rattle.std.proofs.Common.{◌≡◌, ℕ, suc, ◌+◌, ◌-◌, ◌<◌, ◌≤◌, List, [], ◌∷◌, ◌++◌, length, take, drop, get_or, Bool, true, false, not, ◌&&◌, ◌==◌, append_assoc, length-append, refl, sym, ◌∙◌, ap, arith, Ok, pos}
use Rattle.std.proofs.Math.Bool.{and-false}
use Rattle.std.specs.List.{list_all, list_any}
use Rattle.std.specs.Str.{IsUtf8}
use Rattle.std.proofs.Math.Seq.{take-append_seam}
use Rattle.std.proofs.lemmas.Bool.{and_parts, false≢true, or_left, or_right, and_from, not-true}
use Rattle.std.proofs.lemmas.Bool.Decides.{nat_tests}
use Rattle.std.proofs.lemmas.List.{drop-take, length-take-le, take-take}
use Rattle.pp_lexer.specs.declared.rules.Rules.{Rules}
use Rattle.pp_lexer.specs.declared.lexer.item.TokenValue.TheVariants.{Float}
use Rattle.pp_lexer.specs.inner.Fronts.{is_plain}
use Rattle.pp_lexer.specs.Numbers.{is_zero, is_x, is_sign, is_decimal, digits, is_number, begins_number}
use Rattle.pp_lexer.specs.NumberValue.{is_l, is_h, is_f, is_float, is_float_text, float_tail, float_exponent, float_outcome, begins_hex}
use Rattle.pp_lexer.specs.inner.NumberValue.{float_power}
use Rattle.pp_lexer.specs.inner.PlainWords.{continues_number, Stops, IsSuffixed, IsPlainWord}
use Rattle.pp_lexer.specs.PlainItems.{without_suffix}
use Rattle.pp_lexer.specs.Spellings.{one, many}
use Rattle.pp_lexer.specs.Surroundings.{begins_with}
use Rattle.pp_lexer.specs.Words.{is_blank, word_at}
use Rattle.pp_lexer.proofs.characters.PlainFrontsLemmas.{split_at, take_seam}
use Rattle.pp_lexer.proofs.numbers.LongestFloatLemmas.{float_full}
use Rattle.pp_lexer.proofs.numbers.NumbersLemmas.{either_apart}
use Rattle.pp_lexer.proofs.numbers.NumberSetsLemmas.{float_text_number, made_float_text}
use Rattle.pp_lexer.proofs.numbers.PlainNumbersLemmas.{NoMore, ended, ends_class, no_l, no_f, no_h, number_of, either_letter, decimal_plain, take_more, plain_more}
use Rattle.pp_lexer.proofs.numbers.SuffixesLemmas.{float_alone, float_suffixed}
use Rattle.pp_lexer.proofs.spelling.FloatSpellingLemmas.{value_same}
use Rattle.pp_lexer.proofs.words.PlainWordsLemmas.{plain_before}
use Rattle.pp_lexer.proofs.words.SetsLemmas.{Implies, all_many}
use Rattle.pp_lexer.proofs.words.WordsLemmas.{no_number_here}

-- A float's text, with what stands after it

float_ends : (f : ℕ) (cs : List ℕ) → is_f f ≡ true → NoMore (f ∷ cs)
float_ends f cs h = grind arith

float_begins : (w cs : List ℕ) → is_float_text w ≡ true → begins_number (w ++ cs) ≡ true
float_begins w cs h = by (begins_number (w ++ cs)) refl
  where
    by : (b : Bool) → begins_number (w ++ cs) ≡ b → begins_number (w ++ cs) ≡ true
    by true e = e
    by false e =
        absurd (false≢true (sym (no_number_here (w ++ cs) (length w) e) ∙ ap is_number (take-append_seam w cs) ∙ float_text_number w h))

module _ (rules : Rules) (w : List ℕ) (text : is_float_text w ≡ true) (float : is_float w ≡ true) where
  float_word : (cs : List ℕ) → NoMore cs → word_at rules (w ++ cs) ≡ float_outcome rules w cs
  float_word cs e = grind (arith, number_of, float_begins, float_full)

  module _ (cs : List ℕ) (h : begins_with continues_number cs ≡ false) where
    float_at : word_at rules (w ++ cs) ≡ record { value = Ok (Float (record { text = w; width = pos 32 })); taken = length w }
    float_at =
        float_word cs (ended cs h)
        ∙ float_alone rules w cs _ (ends_class is_l no_l cs h) (value_same w text (pos 32)) (ends_class is_h no_h cs h) (ends_class is_f no_f cs h)

    suffixed_at : (f : ℕ) → is_f f ≡ true
        → word_at rules ((w ++ f ∷ []) ++ cs) ≡ record { value = Ok (Float (record { text = w; width = pos 32 })); taken = length w + 1 }
    suffixed_at f e =
        ap (word_at rules) (append_assoc w (f ∷ []) cs) ∙ float_word (f ∷ cs) (float_ends f cs e)
        ∙ float_suffixed rules f w cs _ (value_same w text (pos 32)) e

-- at the front of a text

abbrev no_blank : ℕ → Bool
no_blank c = not (is_blank c)

decimal_no_blank : Implies is_decimal no_blank
decimal_no_blank c h = grind (arith, nat_tests)

float_some : (n : ℕ) (text : List ℕ) → is_float_text (take n text) ≡ true → 0 < n
float_some n text h = grind arith

first_passes : (p : ℕ → Bool) (n : ℕ) (text : List ℕ) → 0 < n → n ≤ length text → list_all p (take n text) ≡ true → p (get_or text 0 0) ≡ true
first_passes p n text h k e = grind arith

without_more : (c : ℕ) (w : List ℕ) → without_suffix (w ++ c ∷ []) ≡ w
without_more c w =
    let n : length (w ++ c ∷ []) - 1 ≡ length w = omega (arith, length-append w (c ∷ [])) in
    ap (λ k. take k (w ++ c ∷ [])) n ∙ take_seam w (c ∷ [])

-- so many bytes at the front are a float's text
pub record IsFloatFront (text : List ℕ) (n : ℕ) : Type 0 where
  pub text_is : is_float_text (take n text) ≡ true
  pub float : is_float (take n text) ≡ true

module _ (text : List ℕ) (n : ℕ) (u : IsUtf8 text) (le : n ≤ length text) (here : is_float_text (take n text) ≡ true)
    (float : is_float (take n text) ≡ true) where
  plain : list_all is_plain (take n text) ≡ true
  plain = made_float_text is_plain decimal_plain refl refl refl refl (take n text) here

  first_no_blank : is_blank (get_or text 0 0) ≡ false
  first_no_blank =
      not-true (is_blank (get_or text 0 0))
      (first_passes no_blank n text (float_some n text here) le
      (made_float_text no_blank decimal_no_blank refl refl refl refl (take n text) here))

  pub plain_float : Stops continues_number text n → IsPlainWord text (Float (record { text = take n text; width = pos 32 })) n
  plain_float stops =
      plain_before continues_number refl refl text n u (float_some n text here) le stops (Float (record { text = take n text; width = pos 32 }))
      plain first_no_blank refl
      (λ rules cs h. float_at rules (take n text) here float cs h
      ∙ ap (λ k. record { value = Ok (Float (record { text = take n text; width = pos 32 })); taken = k }) (length-take-le n text le))

  pub plain_suffixed : IsSuffixed 102 70 text n
      → IsPlainWord text (Float (record { text = without_suffix (take (n + 1) text); width = pos 32 })) (n + 1)
  plain_suffixed suffix =
      let w = take n text in
      let letter = get_or text n 0 in
      let more : take (n + 1) text ≡ w ++ letter ∷ [] = take_more n text suffix.within in
      let letter_plain : is_plain letter ≡ true = either_letter (λ c. is_plain c ≡ true) letter 102 70 suffix.letter refl refl in
      let bare : w ≡ without_suffix (take (n + 1) text) = sym (ap without_suffix more ∙ without_more letter w) in
      plain_before continues_number refl refl text (n + 1) u (omega arith) (omega (arith, suffix.within)) suffix.stops
      (Float (record { text = without_suffix (take (n + 1) text); width = pos 32 }))
      (ap (list_all is_plain) more ∙ plain_more letter w plain letter_plain) first_no_blank refl
      (λ rules cs h. ap (λ t. word_at rules (t ++ cs)) more ∙ suffixed_at rules w here float cs h letter suffix.letter
      ∙ ap (λ t. record { value = Ok (Float (record { text = t; width = pos 32 })); taken = length w + 1 }) bare
      ∙ ap (λ k. record { value = Ok (Float (record { text = without_suffix (take (n + 1) text); width = pos 32 })); taken = k + 1 })
      (length-take-le n text le))

-- Exponents by their bytes

digits_some : (w : List ℕ) → list_all is_decimal w ≡ true → 0 < length w → one is_decimal digits w ≡ true
digits_some w h k = grind (arith, all_many)

pub unsigned_power : (n : ℕ) (text : List ℕ) → n ≤ length text → list_all is_decimal (take n text) ≡ true → 0 < n → float_power (take n text) ≡ true
unsigned_power n text le h some = grind (arith, digits_some)

take_after : (n c : ℕ) (text : List ℕ) → take (n + 1) (c ∷ text) ≡ c ∷ take n text
take_after n c text = let k : n + 1 ≡ suc n = omega arith in ap (λ m. take m (c ∷ text)) k

pub signed_power : (n : ℕ) (text : List ℕ) → 0 < length text → is_sign (get_or text 0 0) ≡ true → n ≤ length (drop 1 text)
    → list_all is_decimal (take n (drop 1 text)) ≡ true → 0 < n → float_power (take (n + 1) text) ≡ true
signed_power n text h k e l u = grind (arith, take_after, digits_some, length-take-le)

pub exponent_text : (n : ℕ) (text : List ℕ) → 0 < length text → get_or text 0 0 ≡ 101 → float_power (take n (drop 1 text)) ≡ true
    → float_exponent (take (n + 1) text) ≡ true
exponent_text n [] l e h = absurd (omega arith)
exponent_text n (c ∷ text) l e h = ap float_exponent (take_after n c text) ∙ ap (λ x. (x == 101) && float_power (take n text)) e ∙ h

-- Mantissas, with an exponent or without one

take_parts : (a b : ℕ) (text : List ℕ) → take (a + b) text ≡ take a text ++ take b (drop a text)
take_parts a b text =
    split_at a (take (a + b) text) ∙ ap (λ t. t ++ drop a (take (a + b) text)) (take-take a (a + b) text (omega arith))
    ∙ ap (λ t. take a text ++ t) (drop-take a b text)

-- characters that pass, and what may follow them
many_append : (p : ℕ → Bool) (P : List ℕ → Bool) (v w : List ℕ) → list_all p v ≡ true → P w ≡ true → many p P (v ++ w) ≡ true
many_append p P [] [] d e = e
many_append p P [] (c ∷ w) d e = or_left (P (c ∷ w)) (p c && many p P w) e
many_append p P (c ∷ v) w d e =
    let b = and_parts (p c) (list_all p v) d in
    or_right (P (c ∷ (v ++ w))) (p c && many p P (v ++ w)) (and_from (p c) _ b.0 (many_append p P v w b.1 e))

any_there : (p : ℕ → Bool) (v : List ℕ) (c : ℕ) (w : List ℕ) → p c ≡ true → list_any p (v ++ c ∷ w) ≡ true
any_there p [] c w h = or_left (p c) (list_any p w) h
any_there p (d ∷ v) c w h = or_right (p d) (list_any p (v ++ c ∷ w)) (any_there p v c w h)

pointed_text : (v u : List ℕ) → list_all is_decimal v ≡ true → many is_decimal float_exponent u ≡ true
    → (length v ≡ 0 → one is_decimal (many is_decimal float_exponent) u ≡ true) → is_float_text (v ++ 46 ∷ u) ≡ true
pointed_text [] u d e some = some refl
pointed_text (c ∷ v) u d e some =
    let b = and_parts (is_decimal c) (list_all is_decimal v) d in
    or_left (is_decimal c && many is_decimal float_tail (v ++ 46 ∷ u)) _
    (and_from (is_decimal c) _ b.0 (many_append is_decimal float_tail v (46 ∷ u) b.1 (or_right (float_exponent (46 ∷ u)) (many is_decimal float_exponent u) e)))

some_first : (u x : List ℕ) → list_all is_decimal u ≡ true → 0 < length u → float_exponent x ≡ true
    → one is_decimal (many is_decimal float_exponent) (u ++ x) ≡ true
some_first [] x d some e = absurd (omega arith)
some_first (c ∷ u) x d some e =
    let b = and_parts (is_decimal c) (list_all is_decimal u) d in
    and_from (is_decimal c) _ b.0 (many_append is_decimal float_exponent u x b.1 e)

-- digits, a point and digits
pub pointed_front : (text : List ℕ) (n m k : ℕ) → n < length text → get_or text n 0 ≡ 46 → list_all is_decimal (take n text) ≡ true
    → m ≤ length (drop (n + 1) text) → list_all is_decimal (take m (drop (n + 1) text)) ≡ true → 0 < n + m
    → float_exponent (take k (drop (n + 1 + m) text)) ≡ true → IsFloatFront text (n + 1 + m + k)
pointed_front text n m k l point whole le fraction some exponent =
    grind (arith, take_parts, take_more, append_assoc, length-take-le, pointed_text, many_append, some_first, any_there)

whole_text : (v x : List ℕ) → list_all is_decimal v ≡ true → 0 < length v → float_exponent x ≡ true → is_float_text (v ++ x) ≡ true
whole_text [] x d some e = absurd (omega arith)
whole_text (c ∷ v) x d some e =
    let b = and_parts (is_decimal c) (list_all is_decimal v) d in
    or_left (is_decimal c && many is_decimal float_tail (v ++ x)) _
    (and_from (is_decimal c) _ b.0 (many_append is_decimal float_tail v x b.1 (or_left (float_exponent x) _ e)))

no_hex : (v y : List ℕ) → list_all is_decimal v ≡ true → 0 < length v → begins_hex (v ++ 101 ∷ y) ≡ false
no_hex [] y d some = absurd (omega arith)
no_hex (c ∷ []) y d some = and-false (is_zero c)
no_hex (c ∷ a ∷ v) y d some =
    let b = and_parts (is_decimal c) (list_all is_decimal (a ∷ v)) d in
    let no : is_x a ≡ false = either_apart 120 88 10 refl refl a (and_parts (is_decimal a) (list_all is_decimal v) b.1).0 in
    ap (λ t. is_zero c && t) no ∙ and-false (is_zero c)

whole_float : (v x : List ℕ) → list_all is_decimal v ≡ true → 0 < length v → float_exponent x ≡ true → 0 < length x → is_float (v ++ x) ≡ true
whole_float v x h k e l = grind (arith, any_there, no_hex)

-- digits, and an exponent
pub whole_front : (text : List ℕ) (n k : ℕ) → 0 < n → n ≤ length text → list_all is_decimal (take n text) ≡ true → 0 < k → k ≤ length (drop n text)
    → float_exponent (take k (drop n text)) ≡ true → IsFloatFront text (n + k)
whole_front text n k some le whole more within exponent = grind (arith, take_parts, length-take-le, whole_text, whole_float)
