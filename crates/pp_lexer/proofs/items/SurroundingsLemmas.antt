-- A list without some of its elements, one element at a time.
use Rattle.std.proofs.Common.{◌≡◌, ◌∷◌, List, Bool, true, false, refl, map, not, cond, if◌then◌else◌}

pub without_first : {A B : Type 0} (f : A → B) (b : Bool) (x : A) (xs : List A) → map f (cond (not b) (x ∷ xs) xs) ≡ (if b then map f xs else f x ∷ map f xs)
without_first f true x xs = refl
without_first f false x xs = refl
