-- A list that is read for the last time: its part is emptied, and no other part has its tokens, so these may be moved out.
use Rattle.std.proofs.Common.{◌≡◌, ◌∙◌, ◌⊎◌, ℕ, zero, suc, ◌+◌, ◌-◌, ◌<◌, ◌≤◌, List, [], ◌∷◌, take, drop, refl, ap, arith, Some, slice_get, inl, inr}
use Rattle.std.specs.Prelude.{set}
use Rattle.std.proofs.lemmas.List.{drop-set-lt, drop-set-add, take-set-le, map-set}
use Rattle.std.proofs.lemmas.Bool.{cases_order}
use Rattle.pp_model.specs.declared.read.Read.{Read}
use Rattle.pp_macros.specs.declared.argument_lists.Part.{Part}
use Rattle.pp_macros.specs.inner.Parts.{list_of, lists_of, AreInOrder, AreApart}

-- a part, emptied
abbrev pub emptied : Part → Part
emptied part = record { start = part.end; end = part.end }

-- a part begins after the position from which the parts are
part_from : (from to : ℕ) (parts : List Part) (k : ℕ) (part : Part) → AreInOrder from parts to → slice_get parts k ≡ Some part → from ≤ part.start
part_from from to [] k part h at = cc
part_from from to (first ∷ parts) zero part h at =
    let is : first ≡ part = cc in
    rw is at h.0
part_from from to (first ∷ parts) (suc k) part h at =
    let later : first.end ≤ part.start = part_from first.end to parts k part h.2 at in
    omega (arith, h.0, h.1, later)

-- parts that are all after one have none of its tokens
later_apart : (part : Part) (from to : ℕ) (parts : List Part) → part.end ≤ from → AreInOrder from parts to → AreApart part parts
later_apart part from to [] low h = tt
later_apart part from to (other ∷ others) low h =
    (inr (omega (arith, low, h.0)), later_apart part other.end to others (omega (arith, low, h.0, h.1)) h.2)

-- once a part is emptied, no part has its tokens
pub emptied_apart : (from to : ℕ) (parts : List Part) (k : ℕ) (part : Part) → AreInOrder from parts to → slice_get parts k ≡ Some part
    → AreApart part (set parts k (emptied part))
emptied_apart from to [] k part h at = cc
emptied_apart from to (first ∷ parts) zero part h at =
    let is : first ≡ part = cc in
    let later : AreApart first parts = later_apart first first.end to parts (omega arith) h.2 in
    (inr (omega arith), rw is at later)
emptied_apart from to (first ∷ parts) (suc k) part h at =
    (inl (part_from first.end to parts k part h.2 at), emptied_apart first.end to parts k part h.2 at)

-- and the parts are in order still
pub emptied_order : (from to : ℕ) (parts : List Part) (k : ℕ) (part : Part) → AreInOrder from parts to → slice_get parts k ≡ Some part
    → AreInOrder from (set parts k (emptied part)) to
emptied_order from to [] k part h at = cc
emptied_order from to (first ∷ parts) zero part h at =
    let is : first ≡ part = cc in
    let order : AreInOrder from (emptied first ∷ parts) to = (omega (arith, h.0, h.1), omega arith, h.2) in
    rw is at order
emptied_order from to (first ∷ parts) (suc k) part h at = (h.0, h.1, emptied_order first.end to parts k part h.2 at)

-- its list is empty then
pub lists_emptied : (tokens : List Read) (parts : List Part) (k : ℕ) (part : Part)
    → lists_of tokens (set parts k (emptied part)) ≡ set (lists_of tokens parts) k []
lists_emptied tokens parts k part =
    let none : part.end - part.end ≡ 0 = omega arith in
    map-set (list_of tokens) parts k (emptied part)
    ∙ ap (λ (n : ℕ). set (lists_of tokens parts) k (take n (drop part.end tokens))) none

-- another token doesn't change a part that has it not
pub list_other : (tokens : List Read) (at : ℕ) (read : Read) (part : Part) → (part.end ≤ at) ⊎ (at < part.start)
    → list_of (set tokens at read) part ≡ list_of tokens part
list_other tokens at read part (inr low) = ap (take (part.end - part.start)) (drop-set-lt part.start tokens at read low)
list_other tokens at read part (inl high) = go (cases_order part.start at)
  where
    within : part.start ≤ at → list_of (set tokens at read) part ≡ list_of tokens part
    within low =
        let is : at ≡ part.start + (at - part.start) = omega (arith, low) in
        ap (λ (n : ℕ). take (part.end - part.start) (drop part.start (set tokens n read))) is
        ∙ ap (take (part.end - part.start)) (drop-set-add part.start tokens (at - part.start) read)
        ∙ take-set-le (part.end - part.start) (drop part.start tokens) (at - part.start) read (omega (arith, high, low))

    go : (part.start ≡ at) ⊎ ((part.start < at) ⊎ (at < part.start)) → list_of (set tokens at read) part ≡ list_of tokens part
    go (inl same) = within (omega (arith, same))
    go (inr (inl before)) = within (omega (arith, before))
    go (inr (inr after)) = ap (take (part.end - part.start)) (drop-set-lt part.start tokens at read after)

-- nor lists of which none has it
pub lists_other : (tokens : List Read) (at : ℕ) (read : Read) (part : Part) (parts : List Part) → AreApart part parts → part.start ≤ at → at < part.end
    → lists_of (set tokens at read) parts ≡ lists_of tokens parts
lists_other tokens at read part [] apart low high = refl
lists_other tokens at read part (other ∷ others) apart low high =
    let away : (other.end ≤ at) ⊎ (at < other.start) = elim apart.0 [
      | inl before ↦ inl (omega (arith, before, low))
      | inr after ↦ inr (omega (arith, after, high))
    ] in
    ap (λ (list : List Read). list ∷ lists_of (set tokens at read) others) (list_other tokens at read other away)
    ∙ ap (λ (lists : List (List Read)). list_of tokens other ∷ lists) (lists_other tokens at read part others apart.1 low high)

-- what is left of a part is apart from the others too
pub rest_apart : (part : Part) (parts : List Part) → AreApart part parts → AreApart (record part { start = part.start + 1 }) parts
rest_apart part [] apart = tt
rest_apart part (other ∷ others) apart =
    let away : (other.end ≤ part.start + 1) ⊎ (part.end ≤ other.start) = elim apart.0 [
      | inl before ↦ inl (omega (arith, before))
      | inr after ↦ inr after
    ] in
    (away, rest_apart part others apart.1)
