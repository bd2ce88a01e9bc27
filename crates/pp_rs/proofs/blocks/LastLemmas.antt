-- The last of some elements.
use Rattle.std.proofs.Common.{◌≡◌, ◌∙◌, ◌-◌, List, [], ◌∷◌, ◌++◌, length, take, ap, sym, Some, arith}
use Rattle.std.specs.List.{slice_get}

last_of_more : {X : Type 0} (first : X) (others : List X) (last : X) → slice_get (first ∷ others) (length others) ≡ Some last
    → first ∷ others ≡ take (length others) (first ∷ others) ++ last ∷ []
last_of_more first [] last e =
    let same : first ≡ last = cc in
    ap (λ x. x ∷ []) same
last_of_more first (next ∷ others) last e = ap (λ later. first ∷ later) (last_of_more next others last e)

-- it stands after the others
pub last_split : {X : Type 0} (xs : List X) (last : X) → slice_get xs (length xs - 1) ≡ Some last → xs ≡ take (length xs - 1) xs ++ last ∷ []
last_split [] last e = cc
last_split (first ∷ others) last e =
    let n : length (first ∷ others) - 1 ≡ length others = omega arith in
    last_of_more first others last (ap (slice_get (first ∷ others)) (sym n) ∙ e) ∙ ap (λ k. take k (first ∷ others) ++ last ∷ []) (sym n)
