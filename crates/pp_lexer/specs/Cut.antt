-- A list cut into parts from the left.
use Rattle.std.specs.Prelude.{ℕ, zero, suc, ◌-◌, Bool, true, false, List, [], ◌∷◌, take}

-- a part has at least one element
pub record Part (A : Type 0) : Type 0 where
  pub first : A
  pub others : List A

abbrev pub is_empty : {A : Type 0} → List A → Bool
is_empty [] = true
is_empty (x ∷ xs) = false

-- the parts of the list after its first `n` elements
abbrev pub cut_after : {A : Type 0} → (List A → ℕ) → ℕ → List A → List (Part A)
cut_after size n [] = []
cut_after size zero (x ∷ xs) =
    let others = size (x ∷ xs) - 1 in
    record { first = x; others = take others xs } ∷ cut_after size others xs
cut_after size (suc n) (x ∷ xs) = cut_after size n xs

-- The first part has as many elements as the rule says of the list, but at least one and no more than there are. The
-- list after the first part is cut in the same way.
unfoldable pub cut : {A : Type 0} → (List A → ℕ) → List A → List (Part A)
cut size xs = cut_after size 0 xs
