-- What stands at a place, by the first characters there.
use Rattle.std.proofs.Common.{◌≡◌, ℕ, zero, suc, ◌<◌, List, ◌∷◌, length, take, drop, Bool, true, false, refl, ◌∙◌, ap, arith, Ok, Err, Option, Some, None}
use Rattle.std.proofs.lemmas.List.{length-take-le}
use Rattle.pp_lexer.specs.declared.rules.Rules.{Rules}
use Rattle.pp_lexer.specs.declared.lexer.item.TokenValue.{TokenValue}
use Rattle.pp_lexer.specs.declared.lexer.item.TokenValue.TheVariants.{NewLine, Ident}
use Rattle.pp_lexer.specs.declared.token.PreprocessorError.TheVariants.{UnexpectedCharacter}
use Rattle.pp_lexer.specs.Identifiers.{is_identifier, begins_identifier}
use Rattle.pp_lexer.specs.Longest.{longest}
use Rattle.pp_lexer.specs.Numbers.{is_number, begins_number}
use Rattle.pp_lexer.specs.NumberValue.{is_float, number_outcome, number_at}
use Rattle.pp_lexer.specs.Punctuators.{punct_of, is_punctuation, punctuation_value, bad_length, punctuation_outcome, punctuation_at}
use Rattle.pp_lexer.specs.Surroundings.{begins_with}
use Rattle.pp_lexer.specs.Words.{is_newline_word, is_word, word_outcome, word_at}
use Rattle.pp_lexer.specs.inner.Words.{is_line_end}
use Rattle.pp_lexer.proofs.words.LongestLemmas.{longest_in, longest_le}
use Rattle.pp_lexer.proofs.words.WordsLemmas.{longest_newline, longest_identifier_word, longest_number_word, longest_other_word, no_newline_front, no_identifier_front, no_number_here, identifier_len, identifier_begins, number_begins, newline_alone}

-- the word of that many characters here
at_len : (rules : Rules) (cs : List ℕ) (n : ℕ) → longest is_word cs ≡ n → word_at rules cs ≡ word_outcome rules (take n cs) (drop n cs)
unfolding word_at
at_len rules cs n e = ap (λ k. word_outcome rules (take k cs) (drop k cs)) e

-- a word's outcome by its class
module _ (rules : Rules) (w after : List ℕ) where
  of_newline : is_newline_word w ≡ true → word_outcome rules w after ≡ record { value = Ok NewLine; taken = 1 }
  of_newline a = rw a refl

  of_identifier : is_newline_word w ≡ false → is_identifier w ≡ true → word_outcome rules w after ≡ record { value = Ok (Ident w); taken = length w }
  of_identifier a b = rw (a, b) refl

  of_number : is_newline_word w ≡ false → is_identifier w ≡ false → is_number w ≡ true → word_outcome rules w after ≡ number_outcome rules w after
  of_number a b d = rw (a, b, d) refl

  of_other : is_newline_word w ≡ false → is_identifier w ≡ false → is_number w ≡ false
      → word_outcome rules w after ≡ punctuation_outcome rules (length w) (punctuation_value w)
  of_other a b d = rw (a, b, d) refl

pub newline_first : (rules : Rules) (cs : List ℕ) → begins_with is_line_end cs ≡ true → word_at rules cs ≡ record { value = Ok NewLine; taken = 1 }
newline_first rules cs h = at_len rules cs 1 (longest_newline cs h) ∙ of_newline rules (take 1 cs) (drop 1 cs) (newline_alone cs h)

pub identifier_first : (rules : Rules) (cs : List ℕ) → begins_identifier cs ≡ true
    → word_at rules cs ≡ record { value = Ok (Ident (take (longest is_identifier cs) cs)); taken = longest is_identifier cs }
identifier_first rules cs h =
    let n = longest is_identifier cs in
    let b = identifier_begins cs h in
    let o : word_at rules cs ≡ record { value = Ok (Ident (take n cs)); taken = length (take n cs) } =
    at_len rules cs n (longest_identifier_word cs h) ∙ of_identifier rules (take n cs) (drop n cs) (no_newline_front cs n b.no_newline)
    (longest_in is_identifier cs (identifier_len cs h)) in
    let l : length (take n cs) ≡ n = length-take-le n cs (longest_le is_identifier cs) in
    o ∙ (λ i. record { value = Ok (Ident (take n cs)); taken = l i })

pub number_first : (rules : Rules) (cs : List ℕ) → begins_number cs ≡ true → word_at rules cs ≡ number_at rules cs
unfolding number_at
number_first rules cs h =
    let n = longest is_number cs in
    let b = number_begins cs h in
    at_len rules cs n (longest_number_word cs h) ∙ of_number rules (take n cs) (drop n cs) (no_newline_front cs n b.no_newline)
    (no_identifier_front cs n b.no_identifier) (longest_in is_number cs b.some)

pub other_first : (rules : Rules) (cs : List ℕ) → begins_with is_line_end cs ≡ false → begins_identifier cs ≡ false → begins_number cs ≡ false
    → word_at rules cs ≡ punctuation_at rules cs
unfolding punctuation_at
other_first rules cs h i d =
    let n = longest is_punctuation cs in
    let l : length (take n cs) ≡ n = length-take-le n cs (longest_le is_punctuation cs) in
    at_len rules cs n (longest_other_word cs h i d)
    ∙ of_other rules (take n cs) (drop n cs) (no_newline_front cs n h) (no_identifier_front cs n i) (no_number_here cs n d)
    ∙ ap (λ k. punctuation_outcome rules k (punctuation_value (take n cs))) l

-- where no word stands there is a bad character
pub no_word : (rules : Rules) (cs : List ℕ) → longest is_word cs ≡ 0
    → word_at rules cs ≡ record { value = Err UnexpectedCharacter; taken = bad_length rules }
unfolding is_newline_word is_identifier is_number punct_of
no_word rules cs h = at_len rules cs 0 h

number_some : (rules : Rules) (w after : List ℕ) → 0 < length w → 0 < (number_outcome rules w after).taken
number_some rules w after h = by (is_float w) refl
  where
    by : (b : Bool) → is_float w ≡ b → 0 < (number_outcome rules w after).taken
    by true e = rw e (omega arith)
    by false e = rw e (omega arith)

bad_some : (rules : Rules) → 0 < bad_length rules
bad_some rules = grind arith

punctuation_some : (rules : Rules) (cs : List ℕ) (n : ℕ) → 0 < (punctuation_outcome rules n (punctuation_value (take n cs))).taken
unfolding punct_of
punctuation_some rules cs zero = bad_some rules
punctuation_some rules cs (suc n) = by (punctuation_value (take (suc n) cs))
  where
    by : (o : Option TokenValue) → 0 < (punctuation_outcome rules (suc n) o).taken
    by None = bad_some rules
    by (Some v) = omega arith

-- what stands at a place takes a character at least
pub word_at-some : (rules : Rules) (c : ℕ) (cs : List ℕ) → 0 < (word_at rules (c ∷ cs)).taken
unfolding number_at punctuation_at
word_at-some rules c cs = by_line (begins_with is_line_end (c ∷ cs)) (begins_identifier (c ∷ cs)) (begins_number (c ∷ cs)) refl refl refl
  where
    by_line : (a i n : Bool) → begins_with is_line_end (c ∷ cs) ≡ a → begins_identifier (c ∷ cs) ≡ i → begins_number (c ∷ cs) ≡ n
        → 0 < (word_at rules (c ∷ cs)).taken
    by_line true i n e f g = rw (newline_first rules (c ∷ cs) e) (omega arith)
    by_line false true n e f g = rw (identifier_first rules (c ∷ cs) f) (identifier_len (c ∷ cs) f)
    by_line false false true e f g = grind (arith, number_begins, length-take-le, longest_le, number_first, number_some)
    by_line false false false e f g = rw (other_first rules (c ∷ cs) e f g) (punctuation_some rules (c ∷ cs) (longest is_punctuation (c ∷ cs)))
