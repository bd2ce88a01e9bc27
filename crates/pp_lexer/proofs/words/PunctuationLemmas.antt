-- What stands where neither an identifier nor a number begins.
use Rattle.std.proofs.Common.{◌≡◌, ℕ, zero, suc, ◌<◌, ◌≤◌, List, [], ◌∷◌, length, take, true, false, ◌==◌, refl, sym, ◌∙◌, arith, Option, Some, None, option_map, Ok, Err}
use Rattle.std.proofs.lemmas.Bool.{ne_eqb, eqb-false}
use Rattle.pp_lexer.specs.declared.rules.Rules.{Rules}
use Rattle.pp_lexer.specs.Surroundings.{begins_with}
use Rattle.pp_lexer.specs.declared.token.Punct.{Punct as Punctuator}
use Rattle.pp_lexer.specs.declared.token.PreprocessorError.TheVariants.{UnexpectedCharacter}
use Rattle.pp_lexer.specs.declared.lexer.item.TokenValue.TheVariants.{Hash, Punct}
use Rattle.pp_lexer.specs.Longest.{longest}
use Rattle.pp_lexer.specs.Punctuators.{punct_of, is_punctuator, is_hash, is_punctuation, bad_length, punctuation_outcome, punctuation_at}
use Rattle.pp_lexer.proofs.words.LongestLemmas.{longest_is, longest_in, longest_same, longest_empty}
use Rattle.pp_lexer.proofs.words.PunctuatorsLemmas.{none_here}

-- no punctuator begins with a `#`
hash_apart : (w : List ℕ) (k : ℕ) → is_punctuator (take (suc k) (35 ∷ w)) ≡ false
unfolding is_punctuator punct_of
hash_apart w = none_here (35 ∷ w) refl

pub hash_longest : (cs : List ℕ) → longest is_punctuation (35 ∷ cs) ≡ 1
unfolding is_punctuation
hash_longest cs = longest_is is_punctuation (35 ∷ cs) 1 (omega arith) refl (omega arith) (none cs)
  where
    none : (cs : List ℕ) (k : ℕ) → 1 < k → k ≤ length (35 ∷ cs) → is_punctuation (take k (35 ∷ cs)) ≡ false
    none cs zero l u = absurd (omega arith)
    none [] (suc zero) l u = absurd (omega arith)
    none [] (suc (suc k)) l u = absurd (omega arith)
    none (d ∷ cs) (suc zero) l u = absurd (omega arith)
    none (d ∷ cs) (suc (suc k)) l u = hash_apart (d ∷ cs) (suc k)

pub at_hash : (rules : Rules) (cs : List ℕ) → begins_with (λ c. c == 35) cs ≡ true → punctuation_at rules cs ≡ record { value = Ok Hash; taken = 1 }
unfolding punctuation_at
at_hash rules cs h = grind (arith, hash_longest)

no_hash : (c : ℕ) (w : List ℕ) → (c == 35) ≡ false → is_hash (c ∷ w) ≡ false
no_hash c w h = rw (ne_eqb 35 c (λ e. eqb-false c 35 h (sym e))) refl

no_hash_front : (cs : List ℕ) (n : ℕ) → begins_with (λ c. c == 35) cs ≡ false → is_hash (take n cs) ≡ false
no_hash_front cs n h = grind arith

-- elsewhere the longest punctuator decides
pub punct_longest : (cs : List ℕ) → begins_with (λ c. c == 35) cs ≡ false → longest is_punctuation cs ≡ longest is_punctuator cs
unfolding is_punctuation
punct_longest [] h = longest_empty is_punctuation ∙ sym (longest_empty is_punctuator)
punct_longest (c ∷ cs) h = longest_same is_punctuation is_punctuator c cs (λ w. rw (no_hash c w h) refl)

at_found : (rules : Rules) (cs : List ℕ) (o : Option Punctuator) → begins_with (λ c. c == 35) cs ≡ false
    → o ≡ punct_of (take (longest is_punctuator cs) cs)
    → punctuation_at rules cs ≡ punctuation_outcome rules (longest is_punctuator cs) (option_map Punct o)
unfolding punctuation_at
at_found rules cs o h f = grind (arith, punct_longest)

pub at_punct : (rules : Rules) (cs : List ℕ) (p : Punctuator) → begins_with (λ c. c == 35) cs ≡ false
    → Some p ≡ punct_of (take (longest is_punctuator cs) cs)
    → punctuation_at rules cs ≡ record { value = Ok (Punct p); taken = longest is_punctuator cs }
at_punct rules cs p h f = at_found rules cs (Some p) h f

pub at_nothing : (rules : Rules) (cs : List ℕ) → begins_with (λ c. c == 35) cs ≡ false → None ≡ punct_of (take (longest is_punctuator cs) cs)
    → punctuation_at rules cs ≡ record { value = Err UnexpectedCharacter; taken = bad_length rules }
at_nothing rules cs h f = at_found rules cs None h f

-- where no punctuator is found, none is passed
pub none_passed : (cs : List ℕ) → None ≡ punct_of (take (longest is_punctuator cs) cs) → longest is_punctuator cs ≡ 0
unfolding is_punctuator
none_passed cs f = grind (arith, longest_in)
