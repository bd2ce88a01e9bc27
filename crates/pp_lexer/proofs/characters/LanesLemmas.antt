-- From the mask of sixteen bytes to the run of those that pass a test.
use Rattle.std.proofs.Common.{◌≡◌, ℕ, ◌%◌, ◌^◌, ◌<◌, ◌≤◌, Bool, true, false, not, List, map, length, get_or, take, drop, ◌+◌, ◌-◌, Fits, w8, sym, ap, ◌∙◌, subst, zero-add, arith, inl, inr}
use Rattle.std.proofs.lemmas.Bool.{agree_below, agree_below_at, and_from, not-true, not-false, cases_eq, eq-eqb, ne_eqb, cond-true, cond-false}
use Rattle.std.proofs.lemmas.Simd.{map-map, mask_l-mod, length-chunk, get_or-chunk, leading_from_mask_l, trailing_mask_l}
use Rattle.std.proofs.lemmas.List.{length-map, length-take-le, get_or-take, take-take, drop-take, take-append-drop}
use Rattle.std.proofs.lemmas.List.Sums.{list_all-from_AllPass, prefix_len-le-length, prefix_len_passes, prefix_len_stops}
use Rattle.std.proofs.lemmas.List.Elements.{All-from_get_or}
use Rattle.std.proofs.lemmas.List.Folds.{list_all-append}
use Rattle.std.specs.List.{prefix_len, list_all}
use lib.Lanes.{chunk, mask_l, top}
use Rattle.pp_lexer.specs.inner.Lanes.{first_set}
use Rattle.pp_lexer.proofs.numbers.PlainNumbersLemmas.{length_whole}

first_is : (p : ℕ → Bool) (v : List ℕ) → length v ≡ 16 → first_set (mask_l (map p v)) ≡ prefix_len (λ x. not (p x)) v
first_is p v long =
    elim (cases_eq (mask_l (map p v)) 0) [
      | inl none ↦ cond-true _ _ _ (eq-eqb _ _ none) ∙ sym (leading_from_mask_l p v none ∙ long)
      | inr some ↦ cond-false _ _ _ (ne_eqb _ _ some) ∙ trailing_mask_l p 64 v (omega arith) (omega arith)
    ]

-- The first r of sixteen bytes are those before the first lane whose top bit is set, where lane by lane `f` was
-- computed; and that is so just if the byte fails `q`.
module _ (q : ℕ → Bool) (d : List ℕ) (r : ℕ) (z : List ℕ) (room : 16 ≤ length d) (fits : (k : ℕ) → Fits w8 (get_or d k 0))
    (found : r ≡ first_set (mask_l (map (top 7) z) % 2 ^ 64)) (f : ℕ → ℕ) (lanes : z ≡ map f (chunk 0 16 d))
    (all : agree_below (λ x. top 7 (f x)) (λ x. not (q x)) 256 ≡ true) where
  abbrev stops : ℕ → Bool
  stops x = top 7 (f x)

  long : length (chunk 0 16 d) ≡ 16
  long = length-chunk 0 16 d room

  counted : r ≡ prefix_len (λ x. not (stops x)) (chunk 0 16 d)
  counted =
      let v = chunk 0 16 d in
      let mask = ap (λ l. mask_l l % 2 ^ 64) (ap (map (top 7)) lanes ∙ map-map (top 7) f v) ∙ mask_l-mod (map stops v) 64 (omega (arith, length-map v stops, long)) in
      found ∙ ap first_set mask ∙ first_is stops v long

  pub run_within : r ≤ 16
  run_within = omega (arith, counted, long, prefix_len-le-length (λ x. not (stops x)) (chunk 0 16 d))

  goes_on : (k : ℕ) → k < r → q (get_or d k 0) ≡ true
  goes_on k to =
      let at = get_or-chunk 0 16 d k 0 (omega (arith, run_within)) ∙ ap (λ j. get_or d j 0) (zero-add k) in
      let quiet = subst (λ x. stops x ≡ false) at (not-true _ (prefix_len_passes (λ x. not (stops x)) (chunk 0 16 d) k 0 (omega (arith, counted)))) in
      not-false _ (sym (agree_below_at stops (λ x. not (q x)) 256 (get_or d k 0) all (fits k).fits) ∙ quiet)

  pub run_passes : list_all q (take r d) ≡ true
  run_passes =
      let size : length (take r d) ≡ r = length-take-le r d (omega (arith, run_within)) in
      list_all-from_AllPass q (take r d)
      (All-from_get_or (λ x. q x ≡ true) (take r d) 0
      (λ k inside. let to : k < r = omega (arith, size) in ap q (get_or-take r d k 0 to) ∙ goes_on k to))

  pub run_stops : r < 16 → q (get_or d r 0) ≡ false
  run_stops short =
      let at = ap (λ j. get_or (chunk 0 16 d) j 0) (sym counted) ∙ get_or-chunk 0 16 d r 0 short ∙ ap (λ j. get_or d j 0) (zero-add r) in
      let set = subst (λ x. stops x ≡ true) at (not-false _ (prefix_len_stops (λ x. not (stops x)) (chunk 0 16 d) 0 (omega (arith, counted, long)))) in
      not-true _ (sym (agree_below_at stops (λ x. not (q x)) 256 (get_or d r 0) all (fits r).fits) ∙ set)

-- a run after a front that passes
pub passes_on : (q : ℕ → Bool) (d : List ℕ) (at run : ℕ) → list_all q (take at d) ≡ true
    → list_all q (take run (take (length d - at) (drop at d))) ≡ true → list_all q (take (at + run) d) ≡ true
passes_on q d at run front more =
    let whole = take (at + run) d in
    let before : take at whole ≡ take at d = take-take at (at + run) d (omega arith) in
    let after : drop at whole ≡ take run (drop at d) = drop-take at run d in
    ap (list_all q) (sym (take-append-drop at whole)) ∙ list_all-append q (take at whole) (drop at whole)
    ∙ and_from _ _ (ap (list_all q) before ∙ front) (ap (list_all q) (after ∙ ap (take run) (sym (length_whole at d))) ∙ more)
