-- A list cut into parts, one part at a time.
use Rattle.std.proofs.Common.{◌≡◌, ℕ, zero, suc, ◌-◌, List, [], ◌∷◌, take, drop, refl, ap}
use Rattle.pp_lexer.specs.Cut.{cut_after, cut}

cut_after-drop : {A : Type 0} (size : List A → ℕ) (n : ℕ) (xs : List A) → cut_after size n xs ≡ cut_after size 0 (drop n xs)
cut_after-drop size zero [] = refl
cut_after-drop size zero (x ∷ xs) = refl
cut_after-drop size (suc n) [] = refl
cut_after-drop size (suc n) (x ∷ xs) = cut_after-drop size n xs

pub cut-nil : {A : Type 0} (size : List A → ℕ) → cut size [] ≡ []
unfolding cut
cut-nil size = refl

-- the first part, with this many elements after its first
pub cut-cons : {A : Type 0} (size : List A → ℕ) (x : A) (xs : List A) (n : ℕ) → size (x ∷ xs) - 1 ≡ n
    → cut size (x ∷ xs) ≡ record { first = x; others = take n xs } ∷ cut size (drop n xs)
unfolding cut
cut-cons size x xs n e = rw e (ap (λ t. record { first = x; others = take n xs } ∷ t) (cut_after-drop size n xs))
