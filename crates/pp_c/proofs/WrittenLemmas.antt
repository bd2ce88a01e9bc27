-- A list whose elements are replaced one after another.
use Rattle.std.proofs.Common.{◌≡◌, ◌∙◌, ℕ, ◌+◌, ◌<◌, ◌≤◌, List, [], ◌∷◌, ◌++◌, map, length, drop, take, get_or, ap, sym, arith, append_assoc}
use Rattle.std.proofs.lemmas.List.{append-nil, drop_all, drop_more, take_all, map_more, set_at, get_or_at, length-map, length-take-le}
use Rattle.std.proofs.Math.ListN.{set}

module _ {X : Type 0} (f : X → X) (first now : List X) (i : ℕ) (other : X) (within : i < length first)
    (h : now ≡ map f (take i first) ++ drop i first) where
  length-before : length (map f (take i first)) ≡ i
  length-before = length-map (take i first) f ∙ length-take-le i first (omega arith)

  now_at : now ≡ map f (take i first) ++ get_or first i other ∷ drop (i + 1) first
  now_at = h ∙ ap (λ xs. map f (take i first) ++ xs) (drop_more first i other within)

  -- the next one is as it was at first
  pub next_same : get_or now i other ≡ get_or first i other
  next_same = ap (λ xs. get_or xs i other) now_at
      ∙ get_or_at (map f (take i first)) (get_or first i other) (drop (i + 1) first) other i length-before

  pub written_more : (new : X) → new ≡ f (get_or now i other) → set now i new ≡ map f (take (i + 1) first) ++ drop (i + 1) first
  written_more new e =
      ap (λ xs. set xs i new) now_at ∙ set_at (map f (take i first)) (get_or first i other) (drop (i + 1) first) new i length-before
      ∙ ap (λ x. map f (take i first) ++ x ∷ drop (i + 1) first) (e ∙ ap f next_same)
      ∙ sym (append_assoc (map f (take i first)) (f (get_or first i other) ∷ []) (drop (i + 1) first))
      ∙ ap (λ xs. xs ++ drop (i + 1) first) (sym (map_more f first i other within))

pub written_all : {X : Type 0} (f : X → X) (first now : List X) (i : ℕ) → length first ≤ i → now ≡ map f (take i first) ++ drop i first → now ≡ map f first
written_all f first now i over h = h ∙ rw (take_all i first over, drop_all i first over) (append-nil (map f first))
