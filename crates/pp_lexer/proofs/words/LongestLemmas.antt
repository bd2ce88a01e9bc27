-- The longest front of a set that is said segment by segment.
use Rattle.std.proofs.Common.{◌≡◌, ℕ, zero, suc, ◌+◌, ◌<◌, ◌≤◌, ◌⊎◌, inl, inr, List, [], ◌∷◌, length, take, drop, Bool, true, false, refl, sym, ◌∙◌, ap, arith, zero-add}
use Rattle.std.proofs.lemmas.Bool.{cases_eq, false≢true}
use Rattle.std.proofs.lemmas.List.{take-take}
use Rattle.pp_lexer.specs.Longest.{longest_within, longest, front_len}
use Rattle.pp_lexer.specs.Spellings.{nothing, one, many, maybe, optional}

-- two sets that have the same fronts of a text
pub within_same : (P Q : List ℕ → Bool) (cs ds : List ℕ) → ((k : ℕ) → P (take (suc k) cs) ≡ Q (take (suc k) ds)) → (n : ℕ)
    → longest_within P cs n ≡ longest_within Q ds n
within_same P Q cs ds same zero = refl
within_same P Q cs ds same (suc n) = rw (same n, within_same P Q cs ds same n) refl

-- sets that have the same spellings that begin with c
pub longest_same : (P Q : List ℕ → Bool) (c : ℕ) (cs : List ℕ) → ((w : List ℕ) → P (c ∷ w) ≡ Q (c ∷ w)) → longest P (c ∷ cs) ≡ longest Q (c ∷ cs)
unfolding longest
longest_same P Q c cs same = within_same P Q (c ∷ cs) (c ∷ cs) (λ k. same (take k cs)) (length (c ∷ cs))

within_none : (P : List ℕ → Bool) (c : ℕ) (cs : List ℕ) → ((w : List ℕ) → P (c ∷ w) ≡ false) → (n : ℕ) → longest_within P (c ∷ cs) n ≡ 0
within_none P c cs none zero = refl
within_none P c cs none (suc n) = rw (none (take n cs)) (within_none P c cs none n)

-- no spelling begins with c
pub longest_none : (P : List ℕ → Bool) (c : ℕ) (cs : List ℕ) → ((w : List ℕ) → P (c ∷ w) ≡ false) → longest P (c ∷ cs) ≡ 0
unfolding longest
longest_none P c cs none = within_none P c cs none (length (c ∷ cs))

-- c itself is a spelling: the longest goes on in what may follow c
within_step : (P Q : List ℕ → Bool) (c : ℕ) (cs : List ℕ) → P (c ∷ []) ≡ true → ((w : List ℕ) → P (c ∷ w) ≡ Q w) → (n : ℕ)
    → longest_within P (c ∷ cs) (suc n) ≡ suc (longest_within Q cs n)
within_step P Q c cs alone next zero = rw alone refl
within_step P Q c cs alone next (suc n) = grind (arith, within_step P Q c cs alone next n)

pub longest_step : (P Q : List ℕ → Bool) (c : ℕ) (cs : List ℕ) → P (c ∷ []) ≡ true → ((w : List ℕ) → P (c ∷ w) ≡ Q w) → longest P (c ∷ cs) ≡ suc (longest Q cs)
unfolding longest
longest_step P Q c cs alone next = within_step P Q c cs alone next (length cs)

-- the same where c alone may be no spelling, and some spelling begins with it here
within_step_some : (P Q : List ℕ → Bool) (c : ℕ) (cs : List ℕ) → ((w : List ℕ) → P (c ∷ w) ≡ Q w) → (n : ℕ) → 0 < longest_within Q cs n
    → longest_within P (c ∷ cs) (suc n) ≡ suc (longest_within Q cs n)
within_step_some P Q c cs next zero some = absurd (omega arith)
within_step_some P Q c cs next (suc n) some = grind (arith, within_step_some P Q c cs next n)

pub longest_step_some : (P Q : List ℕ → Bool) (c : ℕ) (cs : List ℕ) → 0 < longest Q cs → ((w : List ℕ) → P (c ∷ w) ≡ Q w)
    → longest P (c ∷ cs) ≡ suc (longest Q cs)
unfolding longest
longest_step_some P Q c cs some next = within_step_some P Q c cs next (length cs) some

-- what follows never begins with a character that passes
module _ (p : ℕ → Bool) (tail : List ℕ → Bool) (ends : tail [] ≡ true) (apart : (c : ℕ) (w : List ℕ) → p c ≡ true → tail (c ∷ w) ≡ false) where
  pub many_pass : (c : ℕ) (w : List ℕ) → p c ≡ true → many p tail (c ∷ w) ≡ many p tail w
  many_pass c w h = rw (apart c w h, h) refl

  pub many_stop : (c : ℕ) (w : List ℕ) → p c ≡ false → many p tail (c ∷ w) ≡ tail (c ∷ w)
  many_stop c w h = grind arith

  pub longest-many : (cs : List ℕ) → longest (many p tail) cs ≡ front_len p cs + longest tail (drop (front_len p cs) cs)
  unfolding longest
  longest-many [] = refl
  longest-many (c ∷ cs) = by (p c) refl (longest-many cs)
    where
      by : (b : Bool) → p c ≡ b → longest (many p tail) cs ≡ front_len p cs + longest tail (drop (front_len p cs) cs)
          → longest (many p tail) (c ∷ cs) ≡ front_len p (c ∷ cs) + longest tail (drop (front_len p (c ∷ cs)) (c ∷ cs))
      by true e h =
          let s : longest (many p tail) (c ∷ cs) ≡ suc (longest (many p tail) cs) =
          longest_step (many p tail) (many p tail) c cs (many_pass c [] e ∙ ends) (λ w. many_pass c w e) in
          let more : front_len p (c ∷ cs) ≡ suc (front_len p cs) = rw e refl in
          let sum : suc (longest (many p tail) cs) ≡ suc (front_len p cs) + longest tail (drop (front_len p cs) cs) = omega (arith, h) in
          let same : suc (front_len p cs) + longest tail (drop (suc (front_len p cs)) (c ∷ cs)) ≡ front_len p (c ∷ cs) + longest tail
          (drop (front_len p (c ∷ cs)) (c ∷ cs)) =
          ap (λ n. n + longest tail (drop n (c ∷ cs))) (sym more) in
          s ∙ sum ∙ same
      by false e h =
          let s : longest (many p tail) (c ∷ cs) ≡ longest tail (c ∷ cs) = longest_same (many p tail) tail c cs (λ w. many_stop c w e) in
          let none : front_len p (c ∷ cs) ≡ 0 = rw e refl in
          let same : 0 + longest tail (c ∷ cs) ≡ front_len p (c ∷ cs) + longest tail (drop (front_len p (c ∷ cs)) (c ∷ cs)) =
          ap (λ n. n + longest tail (drop n (c ∷ cs))) (sym none) in
          s ∙ sym (zero-add (longest tail (c ∷ cs))) ∙ same

  -- a word of the set: the characters that pass, and then a word of what follows
  pub many_is : (w : List ℕ) → many p tail w ≡ tail (drop (front_len p w) w)
  many_is [] = refl
  many_is (c ∷ w) = grind (arith, many_is w)

pub longest_nothing : (cs : List ℕ) → longest nothing cs ≡ 0
unfolding longest
longest_nothing [] = refl
longest_nothing (c ∷ cs) = longest_none nothing c cs (λ w. refl)

-- characters that pass and nothing else
pub longest_all : (p : ℕ → Bool) (cs : List ℕ) → longest (many p nothing) cs ≡ front_len p cs
longest_all p cs =
    let h : longest (many p nothing) cs ≡ front_len p cs + longest nothing (drop (front_len p cs) cs) = longest-many p nothing refl (λ c w e. refl) cs in
    omega (arith, h, longest_nothing (drop (front_len p cs) cs))

-- a passing character, or what follows at once
module _ (p : ℕ → Bool) (tail : List ℕ → Bool) (ends : tail [] ≡ true) (apart : (c : ℕ) (w : List ℕ) → p c ≡ true → tail (c ∷ w) ≡ false) where
  pub maybe_pass : (c : ℕ) (w : List ℕ) → p c ≡ true → maybe p tail (c ∷ w) ≡ tail w
  maybe_pass c w h = rw (apart c w h, h) refl

  pub maybe_stop : (c : ℕ) (w : List ℕ) → p c ≡ false → maybe p tail (c ∷ w) ≡ tail (c ∷ w)
  maybe_stop c w h = grind arith

  pub longest-maybe_pass : (c : ℕ) (cs : List ℕ) → p c ≡ true → longest (maybe p tail) (c ∷ cs) ≡ suc (longest tail cs)
  longest-maybe_pass c cs h = longest_step (maybe p tail) tail c cs (maybe_pass c [] h ∙ ends) (λ w. maybe_pass c w h)

  pub longest-maybe_stop : (c : ℕ) (cs : List ℕ) → p c ≡ false → longest (maybe p tail) (c ∷ cs) ≡ longest tail (c ∷ cs)
  longest-maybe_stop c cs h = longest_same (maybe p tail) tail c cs (λ w. maybe_stop c w h)

-- an optional segment that begins with one character
module _ (p : ℕ → Bool) (tail : List ℕ → Bool) (ends : tail [] ≡ true) where
  pub longest-optional_pass : (c : ℕ) (cs : List ℕ) → p c ≡ true → longest (optional (one p tail)) (c ∷ cs) ≡ suc (longest tail cs)
  longest-optional_pass c cs h = longest_step (optional (one p tail)) tail c cs (rw h ends) (λ w. rw h refl)

  pub longest-optional_stop : (c : ℕ) (cs : List ℕ) → p c ≡ false → longest (optional (one p tail)) (c ∷ cs) ≡ 0
  longest-optional_stop c cs h = longest_none (optional (one p tail)) c cs (λ w. rw h refl)

-- no spelling is empty text's front
pub longest_empty : (P : List ℕ → Bool) → longest P [] ≡ 0
unfolding longest
longest_empty P = refl

within_le : (P : List ℕ → Bool) (cs : List ℕ) (n : ℕ) → longest_within P cs n ≤ n
within_le P cs zero = omega arith
within_le P cs (suc n) = grind (arith, within_le P cs n)

-- the longest front is a front
pub longest_le : (P : List ℕ → Bool) (cs : List ℕ) → longest P cs ≤ length cs
unfolding longest
longest_le P cs = within_le P cs (length cs)

within_in : (P : List ℕ → Bool) (cs : List ℕ) (n : ℕ) → 0 < longest_within P cs n → P (take (longest_within P cs n) cs) ≡ true
within_in P cs zero some = absurd (omega arith)
within_in P cs (suc n) some = grind (arith, within_in P cs n)

-- and, where there is one, it is in the set
pub longest_in : (P : List ℕ → Bool) (cs : List ℕ) → 0 < longest P cs → P (take (longest P cs) cs) ≡ true
unfolding longest
longest_in P cs some = within_in P cs (length cs) some

module _ (P : List ℕ → Bool) (cs : List ℕ) (m : ℕ) (some : 0 < m) (good : P (take m cs) ≡ true) where
  within_is : (n : ℕ) → m ≤ n → ((k : ℕ) → m < k → k ≤ n → P (take k cs) ≡ false) → longest_within P cs n ≡ m
  within_is zero h none = absurd (omega arith)
  within_is (suc n) h none = by_end (cases_eq m (suc n)) (λ u. within_is n u (λ k l v. none k l (omega arith)))
    where
      by_end : (m ≡ suc n) ⊎ (m ≡ suc n → ⊥) → (m ≤ n → longest_within P cs n ≡ m) → longest_within P cs (suc n) ≡ m
      by_end (inl e) go = let g : P (take (suc n) cs) ≡ true = rw e at good in rw g (sym e)
      by_end (inr ne) go =
          let b : P (take (suc n) cs) ≡ false = none (suc n) (omega arith) (omega arith) in
          rw b (go (omega arith))

  -- a front in the set, where no longer one is
  pub longest_is : m ≤ length cs → ((k : ℕ) → m < k → k ≤ length cs → P (take k cs) ≡ false) → longest P cs ≡ m
  unfolding longest
  longest_is = within_is (length cs)

-- in a set that has the fronts of its spellings no longer front is in it than the first that can't be made longer
module _ (P : List ℕ → Bool) (closed : (w : List ℕ) (n : ℕ) → P w ≡ true → P (take (suc n) w) ≡ true) where
  longer_none : (m k : ℕ) (cs : List ℕ) → m < k → P (take (suc m) cs) ≡ false → P (take k cs) ≡ false
  longer_none m k cs l h = by (P (take k cs)) refl
    where
      by : (b : Bool) → P (take k cs) ≡ b → P (take k cs) ≡ false
      by false e = e
      by true e =
          let t : P (take (suc m) cs) ≡ true = ap P (sym (take-take (suc m) k cs (omega arith))) ∙ closed (take k cs) m e in
          absurd (false≢true (sym h ∙ t))

  pub longest_closed : (m : ℕ) (cs : List ℕ) → 0 < m → m ≤ length cs → P (take m cs) ≡ true → (m < length cs → P (take (suc m) cs) ≡ false) → longest P cs ≡ m
  longest_closed m cs some fits good ends = longest_is P cs m some good fits (λ k l u. longer_none m k cs l (ends (omega arith)))

-- no front at all
pub longest_no_front : (P : List ℕ → Bool) (cs : List ℕ) → ((k : ℕ) → P (take (suc k) cs) ≡ false) → longest P cs ≡ 0
unfolding longest
longest_no_front P cs none = by (length cs)
  where
    by : (n : ℕ) → longest_within P cs n ≡ 0
    by zero = refl
    by (suc n) = rw (none n) (by n)

within_above : (P : List ℕ → Bool) (cs : List ℕ) (m n : ℕ) → P (take m cs) ≡ true → m ≤ n → m ≤ longest_within P cs n
within_above P cs m zero good h = omega arith
within_above P cs m (suc n) good h = by_end (cases_eq m (suc n)) (λ u. within_above P cs m n good u)
  where
    by_end : (m ≡ suc n) ⊎ (m ≡ suc n → ⊥) → (m ≤ n → m ≤ longest_within P cs n) → m ≤ longest_within P cs (suc n)
    by_end (inl e) go = let g : P (take (suc n) cs) ≡ true = rw e at good in rw g (omega arith)
    by_end (inr ne) go = by (P (take (suc n) cs)) refl
      where
        by : (b : Bool) → P (take (suc n) cs) ≡ b → m ≤ longest_within P cs (suc n)
        by true e = rw e (omega arith)
        by false e = rw e (go (omega arith))

-- a front in the set is at most as long as the longest
pub longest_above : (P : List ℕ → Bool) (cs : List ℕ) (m : ℕ) → P (take m cs) ≡ true → m ≤ length cs → m ≤ longest P cs
unfolding longest
longest_above P cs m good h = within_above P cs m (length cs) good h
