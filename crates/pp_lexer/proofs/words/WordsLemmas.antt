-- Which class the longest word is of, by the first characters.
use Rattle.std.proofs.Common.{◌≡◌, ◌≢◌, ℕ, zero, suc, ◌<◌, ◌≤◌, inl, inr, max, List, [], ◌∷◌, take, Bool, true, false, ◌&&◌, ◌||◌, ◌==◌, refl, sym, ◌∙◌, ap, subst, arith, Option, Some, None, unwrap_or, nat_lt}
use Rattle.std.specs.Char.{is_ascii_alphabetic, digit_value}
use Rattle.std.proofs.lemmas.Bool.{ne_eqb, eqb-true, false≢true, ltb-true, or_cases, and_parts}
use Rattle.std.proofs.lemmas.Str.Parse.{digit_from_value}
use Rattle.unicode_ident.proofs.IdentLemmas.{is_xid_start-ascii}
use Rattle.pp_lexer.specs.declared.token.Punct.{Punct as Punctuator}
use Rattle.pp_lexer.specs.declared.token.Punct.TheVariants.{AddAssign, Dot}
use Rattle.pp_lexer.specs.Identifiers.{is_start, is_identifier, begins_identifier}
use Rattle.pp_lexer.specs.Longest.{longest}
use Rattle.pp_lexer.specs.Numbers.{is_decimal, is_point, is_number, begins_number}
use Rattle.pp_lexer.specs.Punctuators.{punctuator, punct_of, is_punctuation}
use Rattle.pp_lexer.specs.Spellings.{nothing, after_first, next_of}
use Rattle.pp_lexer.specs.Surroundings.{begins_with}
use Rattle.pp_lexer.specs.Words.{is_blank, is_newline_word, is_word}
use Rattle.pp_lexer.specs.inner.Words.{is_line_end}
use Rattle.pp_lexer.proofs.words.IdentifiersLemmas.{longest_identifier}
use Rattle.pp_lexer.proofs.words.LongestLemmas.{longest_none, longest_empty, longest_step, longest_nothing, longest_above}
use Rattle.pp_lexer.proofs.numbers.NumbersLemmas.{no_number_len, no_number_front}
use Rattle.pp_lexer.proofs.words.PunctuatorsLemmas.{no_punct, one_alone, found}
use Rattle.pp_lexer.proofs.words.PunctuationLemmas.{punct_longest}
use Rattle.pp_lexer.proofs.words.UnionLemmas.{longest_union}

-- Characters

no_letter : (c : ℕ) → c ≤ 64 → is_ascii_alphabetic c ≡ false
no_letter c h = grind arith

-- no digit, point or newline begins an identifier
low_no_start : (c : ℕ) → c ≤ 64 → is_start c ≡ false
low_no_start c h = rw (is_xid_start-ascii c (omega arith) ∙ no_letter c h, ne_eqb c 95 (omega arith)) refl

pub ascii_no_start : (c : ℕ) → nat_lt c 128 ≡ true → (is_ascii_alphabetic c || (c == 95)) ≡ false → is_start c ≡ false
ascii_no_start c l h = ap (λ b. b || (c == 95)) (is_xid_start-ascii c (ltb-true c 128 l)) ∙ h

pub digit_low : (c : ℕ) → is_decimal c ≡ true → c ≤ 57
digit_low c h = let r = digit_from_value c (ltb-true (digit_value c) 10 h) in omega arith

pub start_apart : (c d : ℕ) → is_start c ≡ true → d ≤ 64 → c ≢ d
start_apart c d s h e = false≢true (sym (low_no_start d h) ∙ ap is_start (sym e) ∙ s)

pub start_no_digit : (c : ℕ) → is_start c ≡ true → is_decimal c ≡ false
start_no_digit c s = grind (arith, low_no_start)

-- Punctuators

-- the first and the second character of a punctuator
abbrev pub first_char : Punctuator → ℕ
first_char p = unwrap_or (next_of (punctuator p)) 0

abbrev second_char : Punctuator → ℕ
second_char p = unwrap_or (next_of (after_first (punctuator p))) 0

module _ (c : ℕ) (cs : List ℕ) (no_hash : (c == 35) ≡ false) where
  no_punctuation : ((p : Punctuator) → first_char p ≡ c → ⊥) → longest is_punctuation (c ∷ cs) ≡ 0
  no_punctuation apart = punct_longest (c ∷ cs) no_hash ∙ (no_punct c cs (by (punct_of (c ∷ [])) refl)).taken
    where
      by : (o : Option Punctuator) → punct_of (c ∷ []) ≡ o → punct_of (c ∷ []) ≡ None
      by None e = e
      by (Some p) e = absurd (apart p (ap (λ w. unwrap_or (next_of w) 0) (found (c ∷ []) p e)))

pub punct_no_start : (p : Punctuator) → is_start (first_char p) ≡ false
punct_no_start AddAssign = ascii_no_start 43 refl refl
punct_no_start p = ascii_no_start (first_char p) refl refl

punct_no_digit : (p : Punctuator) → is_decimal (first_char p) ≡ false
punct_no_digit AddAssign = refl
punct_no_digit _ = refl

punct_no_line_end : (p : Punctuator) → is_line_end (first_char p) ≡ false
punct_no_line_end AddAssign = refl
punct_no_line_end _ = refl

second_no_digit : (p : Punctuator) → is_decimal (second_char p) ≡ false
second_no_digit AddAssign = refl
second_no_digit _ = refl

-- where a character of the class stands, no punctuator and no `#` does
none_of : (p : ℕ → Bool) → p 35 ≡ false → ((q : Punctuator) → p (first_char q) ≡ false) → (cs : List ℕ) → begins_with p cs ≡ true
    → longest is_punctuation cs ≡ 0
none_of p hash apart [] h = longest_empty is_punctuation
none_of p hash apart (c ∷ cs) h =
    no_punctuation c cs (ne_eqb c 35 (λ e. false≢true (sym hash ∙ ap p (sym e) ∙ h))) (λ q e. false≢true (sym (apart q) ∙ ap p e ∙ h))

-- Newlines

newline_len : (cs : List ℕ) → begins_with is_line_end cs ≡ true → longest is_newline_word cs ≡ 1
unfolding is_newline_word
newline_len [] h = absurd (false≢true h)
newline_len (c ∷ cs) h = longest_step is_newline_word nothing c cs (rw h refl) (λ w. rw h refl) ∙ ap suc (longest_nothing cs)

no_newline_len : (cs : List ℕ) → begins_with is_line_end cs ≡ false → longest is_newline_word cs ≡ 0
unfolding is_newline_word
no_newline_len [] h = longest_empty is_newline_word
no_newline_len (c ∷ cs) h = longest_none is_newline_word c cs (λ w. rw h refl)

pub no_newline_front : (cs : List ℕ) (n : ℕ) → begins_with is_line_end cs ≡ false → is_newline_word (take n cs) ≡ false
unfolding is_newline_word
no_newline_front cs n h = grind arith

pub newline_alone : (cs : List ℕ) → begins_with is_line_end cs ≡ true → is_newline_word (take 1 cs) ≡ true
unfolding is_newline_word
newline_alone [] h = absurd (false≢true h)
newline_alone (c ∷ cs) h = rw h refl

-- Identifiers

no_identifier_len : (cs : List ℕ) → begins_identifier cs ≡ false → longest is_identifier cs ≡ 0
unfolding is_identifier
no_identifier_len [] h = longest_empty is_identifier
no_identifier_len (c ∷ cs) h = longest_none is_identifier c cs (λ w. rw h refl)

pub no_identifier_front : (cs : List ℕ) (n : ℕ) → begins_identifier cs ≡ false → is_identifier (take n cs) ≡ false
unfolding is_identifier
no_identifier_front cs n h = grind arith

pub identifier_len : (cs : List ℕ) → begins_identifier cs ≡ true → 0 < longest is_identifier cs
identifier_len [] h = absurd (false≢true h)
identifier_len (c ∷ cs) h = let e = longest_identifier c cs h in omega arith

-- Numbers

pub no_number_here : (cs : List ℕ) (n : ℕ) → begins_number cs ≡ false → is_number (take n cs) ≡ false
unfolding is_number
no_number_here [] zero h = refl
no_number_here [] (suc n) h = refl
no_number_here (c ∷ cs) zero h = refl
no_number_here (c ∷ cs) (suc n) h = no_number_front c cs h n

number_of_digit : (c : ℕ) → is_decimal c ≡ true → is_number (c ∷ []) ≡ true
unfolding is_number
number_of_digit c d = grind arith

number_of_point : (d : ℕ) → is_decimal d ≡ true → is_number (46 ∷ d ∷ []) ≡ true
unfolding is_number
number_of_point d h = rw h refl

-- a punctuator that stands where a number begins is no longer than the number
point_punct : (d : ℕ) (cs : List ℕ) → is_decimal d ≡ true → longest is_punctuation (46 ∷ d ∷ cs) ≡ 1
unfolding punct_of
point_punct d cs h = punct_longest (46 ∷ d ∷ cs) refl ∙ (one_alone 46 Dot refl d cs (by (punct_of (46 ∷ d ∷ [])) refl)).taken
  where
    by : (o : Option Punctuator) → punct_of (46 ∷ d ∷ []) ≡ o → punct_of (46 ∷ d ∷ []) ≡ None
    by None e = e
    by (Some p) e = absurd (false≢true (sym (second_no_digit p) ∙ ap (λ w. is_decimal (unwrap_or (next_of (after_first w)) 0)) (found (46 ∷ d ∷ []) p e) ∙ h))

-- where a number begins there is one, no shorter than a punctuator, and no identifier or newline
pub record IsNumberFirst (cs : List ℕ) : Type 0 where
  pub some : 0 < longest is_number cs
  pub shorter : longest is_punctuation cs ≤ longest is_number cs
  pub no_identifier : begins_identifier cs ≡ false
  pub no_newline : begins_with is_line_end cs ≡ false

digit_first : (c : ℕ) (cs : List ℕ) → is_decimal c ≡ true → IsNumberFirst (c ∷ cs)
digit_first c cs d =
    let l : c ≤ 57 = digit_low c d in
    let a : 1 ≤ longest is_number (c ∷ cs) = longest_above is_number (c ∷ cs) 1 (number_of_digit c d) (omega arith) in
    let z : longest is_punctuation (c ∷ cs) ≡ 0 = none_of is_decimal refl punct_no_digit (c ∷ cs) d in
    record {
      some = omega arith;
      shorter = omega arith;
      no_identifier = low_no_start c (omega arith);
      no_newline = ne_eqb c 10 (λ e. false≢true (ap is_decimal (sym e) ∙ d));
    }

point_first : (d : ℕ) (cs : List ℕ) → is_decimal d ≡ true → IsNumberFirst (46 ∷ d ∷ cs)
point_first d cs h =
    let a : 2 ≤ longest is_number (46 ∷ d ∷ cs) = longest_above is_number (46 ∷ d ∷ cs) 2 (number_of_point d h) (omega arith) in
    let z : longest is_punctuation (46 ∷ d ∷ cs) ≡ 1 = point_punct d cs h in
    record { some = omega arith; shorter = omega arith; no_identifier = low_no_start 46 (omega arith); no_newline = refl }

pub number_begins : (cs : List ℕ) → begins_number cs ≡ true → IsNumberFirst cs
number_begins [] h = absurd (false≢true h)
number_begins (c ∷ cs) h =
    elim (or_cases (is_decimal c) (is_point c && begins_with is_decimal cs) h) [
      | inl d ↦ digit_first c cs d
      | inr p ↦ by cs (and_parts (is_point c) (begins_with is_decimal cs) p).0 (and_parts (is_point c) (begins_with is_decimal cs) p).1
    ]
  where
    by : (cs : List ℕ) → is_point c ≡ true → begins_with is_decimal cs ≡ true → IsNumberFirst (c ∷ cs)
    by [] p d = absurd (false≢true d)
    by (d ∷ cs) p h = subst (λ x. IsNumberFirst (x ∷ d ∷ cs)) (sym (eqb-true c 46 p)) (point_first d cs h)

-- an identifier's first character begins nothing else
pub record IsIdentifierFirst (cs : List ℕ) : Type 0 where
  pub no_number : begins_number cs ≡ false
  pub no_newline : begins_with is_line_end cs ≡ false
  pub no_punctuation : longest is_punctuation cs ≡ 0

pub identifier_begins : (cs : List ℕ) → begins_identifier cs ≡ true → IsIdentifierFirst cs
identifier_begins [] h = absurd (false≢true h)
identifier_begins (c ∷ cs) h = record {
  no_number = rw (start_no_digit c h, ne_eqb c 46 (start_apart c 46 h (omega arith))) refl;
  no_newline = ne_eqb c 10 (start_apart c 10 h (omega arith));
  no_punctuation = none_of is_start (low_no_start 35 (omega arith)) punct_no_start (c ∷ cs) h;
}

newline_begins : (cs : List ℕ) → begins_with is_line_end cs ≡ true → (begins_identifier cs ≡ false) × (begins_number cs ≡ false)
    × (longest is_punctuation cs ≡ 0)
newline_begins cs h = grind (arith, eqb-true, low_no_start, none_of, punct_no_line_end)

-- The longest word is the longest of the class

word_len : (cs : List ℕ) → longest is_word cs ≡ max (longest is_newline_word cs) (max (longest is_identifier cs)
    (max (longest is_number cs) (longest is_punctuation cs)))
unfolding is_word
word_len cs =
    longest_union is_newline_word (λ w. is_identifier w || (is_number w || is_punctuation w)) cs
    ∙ ap (max (longest is_newline_word cs)) (longest_union is_identifier (λ w. is_number w || is_punctuation w) cs
    ∙ ap (max (longest is_identifier cs)) (longest_union is_number is_punctuation cs))

pub longest_newline : (cs : List ℕ) → begins_with is_line_end cs ≡ true → longest is_word cs ≡ 1
longest_newline cs h = grind (arith, newline_begins, word_len, newline_len, no_identifier_len, no_number_len)

pub longest_identifier_word : (cs : List ℕ) → begins_identifier cs ≡ true → longest is_word cs ≡ longest is_identifier cs
longest_identifier_word cs h = grind (arith, identifier_begins, word_len, no_newline_len, no_number_len)

pub longest_number_word : (cs : List ℕ) → begins_number cs ≡ true → longest is_word cs ≡ longest is_number cs
longest_number_word cs h = grind (arith, number_begins, word_len, no_newline_len, no_identifier_len)

pub longest_other_word : (cs : List ℕ) → begins_with is_line_end cs ≡ false → begins_identifier cs ≡ false → begins_number cs ≡ false
    → longest is_word cs ≡ longest is_punctuation cs
longest_other_word cs n i d = grind (arith, word_len, no_newline_len, no_identifier_len, no_number_len)

-- No word begins with a blank

punct_no_blank : (p : Punctuator) → is_blank (first_char p) ≡ false
punct_no_blank AddAssign = refl
punct_no_blank _ = refl

blank_at : (c : ℕ) (cs : List ℕ) → c ≤ 64 → is_blank c ≡ true → is_line_end c ≡ false → is_decimal c ≡ false → is_point c ≡ false → longest is_word (c ∷ cs) ≡ 0
blank_at c cs low b n d p =
    longest_other_word (c ∷ cs) n (low_no_start c low) (rw (d, p) refl) ∙ none_of is_blank refl punct_no_blank (c ∷ cs) b

pub longest_blank : (c : ℕ) (cs : List ℕ) → is_blank c ≡ true → longest is_word (c ∷ cs) ≡ 0
longest_blank c cs h = grind (arith, blank_at, eqb-true)
