-- The longest front in a union of sets is the longer of the two.
use Rattle.std.proofs.Common.{◌≡◌, ℕ, zero, suc, ◌≤◌, max, List, length, Bool, ◌||◌, refl, arith}
use Rattle.pp_lexer.specs.Longest.{longest_within, longest}

within_le : (P : List ℕ → Bool) (cs : List ℕ) (n : ℕ) → longest_within P cs n ≤ n
within_le P cs zero = omega arith
within_le P cs (suc n) = grind (arith, within_le P cs n)

module _ (P Q : List ℕ → Bool) (cs : List ℕ) where
  within_union : (n : ℕ) → longest_within (λ w. P w || Q w) cs n ≡ max (longest_within P cs n) (longest_within Q cs n)
  within_union zero = refl
  within_union (suc n) = grind (arith, within_le, within_union n)

  pub longest_union : longest (λ w. P w || Q w) cs ≡ max (longest P cs) (longest Q cs)
  unfolding longest
  longest_union = within_union (length cs)
