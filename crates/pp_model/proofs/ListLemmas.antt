-- The splice list read and built one entry after another.
use Rattle.std.proofs.Common.{◌≡◌, ◌∙◌, ℕ, suc, ◌<◌, ◌+◌, [], ◌∷◌, ◌++◌, List, Option, None, Some, length, drop, take, map, get_or, sym, ap, add-one}
use Rattle.std.proofs.lemmas.List.{map_more}
use Rattle.std.proofs.Math.Seq.{drop-cons}

-- the item at a place, and what stands after it
pub drop-item : {X : Type 0} (xs : List X) (i : ℕ) (x : X) → i < length xs → x ≡ get_or xs i x → drop i xs ≡ x ∷ drop (i + 1) xs
drop-item xs i x h e = rw (add-one, drop-cons xs i x) (ap (λ y. y ∷ drop (suc i) xs) (sym e))

-- what is found in the rest, or else before it
abbrev pub rest_or : {A : Type 0} → Option A → Option A → Option A
rest_or (Some value) before = Some value
rest_or None before = before

-- one more of a list is mapped
pub mapped_more : {X Y : Type 0} (f : X → Y) (xs : List X) (i : ℕ) (x : X) (y : Y) (ys more : List Y) → i < length xs → x ≡ get_or xs i x → y ≡ f x
    → ys ≡ map f (take i xs) → more ≡ ys ++ y ∷ [] → more ≡ map f (take (i + 1) xs)
mapped_more f xs i x y ys more inside at is so_far grown =
    grown ∙ ap (λ zs. zs ++ y ∷ []) so_far ∙ ap (λ z. map f (take i xs) ++ z ∷ []) (is ∙ ap f at) ∙ sym (map_more f xs i x inside)
