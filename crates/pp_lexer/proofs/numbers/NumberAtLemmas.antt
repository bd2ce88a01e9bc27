-- The longest number of a text, and the reader after it.
use Rattle.std.proofs.Common.{◌≡◌, ℕ, ◌+◌, List, length, take, drop, true, false, sym, ◌∙◌, ap, if◌then◌else◌, arith}
use Rattle.std.proofs.lemmas.List.{length-take-le}
use Rattle.pp_lexer.specs.declared.rules.Rules.{Rules}
use Rattle.pp_lexer.specs.Longest.{longest}
use Rattle.pp_lexer.specs.Numbers.{is_number}
use Rattle.pp_lexer.specs.NumberValue.{is_float, float_outcome, integer_outcome, number_outcome, number_at}
use Rattle.pp_lexer.specs.Reading.{Reading, letters, advanced}
use Rattle.pp_lexer.proofs.characters.AdvancedLemmas.{letters-advanced, advanced-advanced}
use Rattle.pp_lexer.proofs.words.LongestLemmas.{longest_le}

module _ (rules : Rules) (cs word after : List ℕ) (spelled : word ≡ take (longest is_number cs) cs) (left : after ≡ drop (longest is_number cs) cs) where
  outcome_is : number_outcome rules word after ≡ number_at rules cs
  unfolding number_at
  outcome_is = λ i. number_outcome rules (spelled i) (left i)

  pub at_float : is_float word ≡ true → float_outcome rules word after ≡ number_at rules cs
  at_float h = sym (ap (λ b. if b then float_outcome rules word after else integer_outcome rules word after) h) ∙ outcome_is

  pub at_integer : is_float word ≡ false → integer_outcome rules word after ≡ number_at rules cs
  at_integer h = sym (ap (λ b. if b then float_outcome rules word after else integer_outcome rules word after) h) ∙ outcome_is

-- the reader after the number, and after its suffix
pub letters_after : (r r1 : Reading) → r1 ≡ advanced (longest is_number (letters r.rest)) r
    → letters r1.rest ≡ drop (longest is_number (letters r.rest)) (letters r.rest)
letters_after r r1 e = ap (λ x. letters x.rest) e ∙ letters-advanced (longest is_number (letters r.rest)) r.rest r.last

pub after_suffix : (suffix : List ℕ → ℕ) (word : List ℕ) (r r1 r2 : Reading) → word ≡ take (longest is_number (letters r.rest)) (letters r.rest)
    → r1 ≡ advanced (longest is_number (letters r.rest)) r → r2 ≡ advanced (suffix (letters r1.rest)) r1
    → r2 ≡ advanced (length word + suffix (letters r1.rest)) r
after_suffix suffix word r r1 r2 s e f = grind (arith, length-take-le, longest_le, advanced-advanced)
