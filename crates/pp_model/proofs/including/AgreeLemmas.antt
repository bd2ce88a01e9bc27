-- A condition is read in the included text, or behind it: the truths of the two texts agree with those of the one.
use Rattle.std.proofs.Common.{◌≡◌, ◌≢◌, ◌∙◌, ℕ, ◌+◌, ◌≤◌, ◌<◌, ◌==◌, Bool, true, false, [], ◌∷◌, refl, sym, ap, Some, None, ◌⊎◌, inl, inr, arith}
use Rattle.std.specs.List.{AllByRecursion as Each}
use Rattle.std.proofs.lemmas.Bool.{eq-eqb, eqb-true, ne_eqb}
use Rattle.pp_model.specs.Blocks.{Truths, truth_at}
use Rattle.pp_model.specs.declared.truth.Truth.{Truth}
use Rattle.pp_model.proofs.including.Insertion.{Agree}

-- a condition that is read at a position
abbrev pub noted : ℕ → Bool → Truths → Truths
noted position holds truths = record { position = position; holds = holds } ∷ truths

-- it is the truth there, and the others stay
there_if : (t : Truth) (ts : Truths) (p : ℕ) → (t.position == p) ≡ true → truth_at (t ∷ ts) p ≡ Some t.holds
there_if t ts p is = rw is refl

elsewhere_if : (t : Truth) (ts : Truths) (p : ℕ) → (t.position == p) ≡ false → truth_at (t ∷ ts) p ≡ truth_at ts p
elsewhere_if t ts p is = rw is refl

pub truth_there : (p : ℕ) (holds : Bool) (ts : Truths) → truth_at (noted p holds ts) p ≡ Some holds
truth_there p holds ts = there_if (record { position = p; holds = holds }) ts p (eq-eqb p p refl)

pub truth_elsewhere : (p k : ℕ) (holds : Bool) (ts : Truths) → p ≢ k → truth_at (noted p holds ts) k ≡ truth_at ts k
truth_elsewhere p k holds ts other = elsewhere_if (record { position = p; holds = holds }) ts k (ne_eqb p k other)

-- no condition behind a position was read
pub unread : (q p : ℕ) (ts : Truths) → Each (λ truth. truth.position < q) ts → q ≤ p → truth_at ts p ≡ None
unread q p [] all h = refl
unread q p (t ∷ ts) all h = elsewhere_if t ts p (ne_eqb t.position p (λ same. omega (arith, same, all.0, h))) ∙ unread q p ts all.1 h

-- the same condition, noted at a position of two texts, or at others
noted_both : (p k : ℕ) (holds : Bool) (ts us : Truths) (i j : ℕ) → ((p ≡ i) × (k ≡ j)) ⊎ ((p ≢ i) × (k ≢ j)) → truth_at us j ≡ truth_at ts i
    → truth_at (noted k holds us) j ≡ truth_at (noted p holds ts) i
noted_both p k holds ts us i j (inl same) e = rw (same.0, same.1) (truth_there j holds us ∙ sym (truth_there i holds ts))
noted_both p k holds ts us i j (inr other) e = truth_elsewhere k j holds us other.1 ∙ e ∙ sym (truth_elsewhere p i holds ts other.0)

-- before the included text nothing was read behind its place
pub agree_before : (q n : ℕ) (ts : Truths) → Each (λ truth. truth.position < q) ts → Agree q n ts [] ts
agree_before q n ts all = record {
  front = λ p h. refl;
  within = λ i h. unread q (q + i) ts all (omega arith);
  behind = λ j. unread q (q + (n + j)) ts all (omega arith) ∙ sym (unread q (q + j) ts all (omega arith));
}

module _ (q n : ℕ) (outer inner whole : Truths) (agree : Agree q n outer inner whole) (holds : Bool) where
  -- in the included text
  pub agree_within : (i : ℕ) → i < n → Agree q n outer (noted i holds inner) (noted (q + i) holds whole)
  agree_within i h = record {
    front = λ p k. truth_elsewhere (q + i) p holds whole (λ same. omega (arith, same, k)) ∙ agree.front p k;
    within = λ j k. noted_both i (q + i) holds inner whole j (q + j) (equal_or_not i j) (agree.within j k);
    behind = λ j. truth_elsewhere (q + i) (q + (n + j)) holds whole (λ same. omega (arith, same, h)) ∙ agree.behind j;
  }
    where
      equal_or_not : (i j : ℕ) → ((i ≡ j) × (q + i ≡ q + j)) ⊎ ((i ≢ j) × (q + i ≢ q + j))
      equal_or_not i j = by_test (i == j) refl
        where
          by_test : (b : Bool) → (i == j) ≡ b → ((i ≡ j) × (q + i ≡ q + j)) ⊎ ((i ≢ j) × (q + i ≢ q + j))
          by_test true is = let same = eqb-true i j is in inl (same, ap (λ k. q + k) same)
          by_test false is = inr ((λ same. let bad = sym is ∙ eq-eqb i j same in cc), (λ same. let bad = sym is ∙ eq-eqb i j (omega (arith, same)) in cc))

  -- behind it
  pub agree_behind : (i : ℕ) → Agree q n (noted (q + i) holds outer) inner (noted (q + (n + i)) holds whole)
  agree_behind i = record {
    front = λ p k. truth_elsewhere (q + (n + i)) p holds whole (λ same. omega (arith, same, k)) ∙ agree.front p k
        ∙ sym (truth_elsewhere (q + i) p holds outer (λ same. omega (arith, same, k)));
    within = λ j k. truth_elsewhere (q + (n + i)) (q + j) holds whole (λ same. omega (arith, same, k)) ∙ agree.within j k;
    behind = λ j. noted_both (q + i) (q + (n + i)) holds outer whole (q + j) (q + (n + j)) (equal_or_not i j) (agree.behind j);
  }
    where
      equal_or_not : (i j : ℕ) → ((q + i ≡ q + j) × (q + (n + i) ≡ q + (n + j))) ⊎ ((q + i ≢ q + j) × (q + (n + i) ≢ q + (n + j)))
      equal_or_not i j = by_test (i == j) refl
        where
          by_test : (b : Bool) → (i == j) ≡ b → ((q + i ≡ q + j) × (q + (n + i) ≡ q + (n + j))) ⊎ ((q + i ≢ q + j) × (q + (n + i) ≢ q + (n + j)))
          by_test true is = let same = eqb-true i j is in inl (ap (λ k. q + k) same, ap (λ k. q + (n + k)) same)
          by_test false is =
              inr ((λ same. let bad = sym is ∙ eq-eqb i j (omega (arith, same)) in cc), (λ same. let bad = sym is ∙ eq-eqb i j (omega (arith, same)) in cc))
