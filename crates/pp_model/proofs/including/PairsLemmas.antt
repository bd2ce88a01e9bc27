-- Two lists, each entry of which is in a relation to the one at its place in the other.
use Rattle.std.proofs.Common.{◌≡◌, ℕ, zero, suc, ◌-◌, List, [], ◌∷◌, ◌++◌, length, take, refl, ap, arith, Option, Some, None}
use Rattle.std.specs.List.{slice_get, cons_option}
use Rattle.pp_model.specs.Blocks.{Block, innermost}
use Rattle.pp_model.specs.inner.Alike.{Pairs, Both}

module _ {X : Type 0} (R : X → X → Type 0) where
  pub pairs_append : (xs ys more others : List X) → Pairs R xs ys → Pairs R more others → Pairs R (xs ++ more) (ys ++ others)
  pairs_append [] [] more others h later = later
  pairs_append (x ∷ xs) (y ∷ ys) more others h later = (h.0, pairs_append xs ys more others h.1 later)
  pairs_append _ _ more others h later = absurd h

  pub pairs_cons : (x y : Option X) (xs ys : List X) → Both R x y → Pairs R xs ys → Pairs R (cons_option x xs) (cons_option y ys)
  pairs_cons None None xs ys first rest = rest
  pairs_cons (Some x) (Some y) xs ys first rest = (first, rest)
  pairs_cons _ _ xs ys first rest = absurd first

  pub pairs_take : (n : ℕ) (xs ys : List X) → Pairs R xs ys → Pairs R (take n xs) (take n ys)
  pairs_take zero xs ys h = tt
  pairs_take (suc n) [] [] h = tt
  pairs_take (suc n) (x ∷ xs) (y ∷ ys) h = (h.0, pairs_take n xs ys h.1)
  pairs_take (suc n) _ _ h = absurd h

  pub pairs_length : (xs ys : List X) → Pairs R xs ys → length xs ≡ length ys
  pairs_length [] [] h = refl
  pairs_length (x ∷ xs) (y ∷ ys) h = ap suc (pairs_length xs ys h.1)
  pairs_length _ _ h = absurd h

  pub pairs_get : (i : ℕ) (xs ys : List X) → Pairs R xs ys → Both R (slice_get xs i) (slice_get ys i)
  pairs_get i [] [] h = tt
  pairs_get zero (x ∷ xs) (y ∷ ys) h = h.0
  pairs_get (suc i) (x ∷ xs) (y ∷ ys) h = pairs_get i xs ys h.1
  pairs_get i _ _ h = absurd h

-- of blocks the last ones are in the relation too
pub pairs_innermost : (R : Block → Block → Type 0) (blocks others : List Block) → Pairs R blocks others → Both R (innermost blocks) (innermost others)
pairs_innermost R blocks others h = rw (← pairs_length R blocks others h) (pairs_get R (length blocks - 1) blocks others h)

-- the last of some blocks, with others before them
pub innermost-append : (outer : List Block) (block : Block) (inner : List Block) → innermost (outer ++ block ∷ inner) ≡ innermost (block ∷ inner)
innermost-append [] block inner = refl
innermost-append (first ∷ []) block inner = rw one_less refl
  where
    one_less : suc (suc (length inner)) - 1 ≡ suc (suc (length inner) - 1)
    one_less = omega arith
innermost-append (first ∷ next ∷ outer) block inner = rw one_less (innermost-append (next ∷ outer) block inner)
  where
    one_less : suc (suc (length (outer ++ block ∷ inner))) - 1 ≡ suc (suc (length (outer ++ block ∷ inner)) - 1)
    one_less = omega arith
