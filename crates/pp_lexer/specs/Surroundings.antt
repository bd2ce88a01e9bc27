-- Each element of a list, with those before it and those after it.
use Rattle.std.specs.Prelude.{Bool, false, List, [], ◌∷◌}

-- an element, those before it and those after it, the nearest first on both sides
pub record Surrounded (A : Type 0) : Type 0 where
  pub before : List A
  pub here : A
  pub after : List A

-- each element of a list that comes after the elements of `before`, the nearest first
abbrev pub surrounded_from : {A : Type 0} → List A → List A → List (Surrounded A)
surrounded_from before [] = []
surrounded_from before (x ∷ xs) = record { before = before; here = x; after = xs } ∷ surrounded_from (x ∷ before) xs

abbrev pub surrounded : {A : Type 0} → List A → List (Surrounded A)
surrounded xs = surrounded_from [] xs

-- whether there is a first element, and it passes
abbrev pub begins_with : {A : Type 0} → (A → Bool) → List A → Bool
begins_with p [] = false
begins_with p (x ∷ xs) = p x
