-- A spelling with a character after it that no spelling has, or with the end there, is the longest.
use Rattle.std.proofs.Common.{◌≡◌, ℕ, zero, suc, ◌<◌, ◌≤◌, List, [], ◌∷◌, ◌++◌, length, take, drop, Bool, true, false, ◌&&◌, not, append-nil, length-append, refl, ◌∙◌, ap, arith}
use Rattle.std.specs.List.{list_all}
use Rattle.std.proofs.Math.Seq.{take-append_seam}
use Rattle.std.proofs.lemmas.Bool.{and_right, eq-eqb}
use Rattle.std.proofs.lemmas.List.{drop_at}
use Rattle.pp_lexer.specs.Longest.{longest}
use Rattle.pp_lexer.proofs.words.LongestLemmas.{longest_is}
use Rattle.pp_lexer.proofs.words.SetsLemmas.{is_other, Lacks}

-- no spelling of the set goes on here
abbrev pub EndsBefore : (List ℕ → Bool) → List ℕ → Type 0
EndsBefore P [] = Unit {0}
EndsBefore P (c ∷ cs) = Lacks c P

has_it : (c : ℕ) (w cs : List ℕ) (k : ℕ) → length w < k → list_all (is_other c) (take k (w ++ c ∷ cs)) ≡ false
has_it c w cs zero l = absurd (omega arith)
has_it c [] cs (suc k) l = ap (λ b. not b && list_all (is_other c) (take k cs)) (eq-eqb c c refl)
has_it c (d ∷ w) cs (suc k) l = and_right (is_other c d) (list_all (is_other c) (take k (w ++ c ∷ cs))) (has_it c w cs k (omega arith))

module _ (P : List ℕ → Bool) (w : List ℕ) (some : 0 < length w) (good : P w ≡ true) where
  no_longer : (cs : List ℕ) → EndsBefore P cs → (k : ℕ) → length w < k → k ≤ length (w ++ cs) → P (take k (w ++ cs)) ≡ false
  no_longer cs h k e l = grind (arith, append-nil, has_it)

  -- the spelling is the longest there
  pub longest_before : (cs : List ℕ) → EndsBefore P cs → longest P (w ++ cs) ≡ length w
  longest_before cs h =
      let front : P (take (length w) (w ++ cs)) ≡ true = ap P (take-append_seam w cs) ∙ good in
      longest_is P (w ++ cs) (length w) some front (omega (arith, length-append w cs)) (no_longer cs h)

  -- what is taken, and what stands after it
  pub taken_before : (cs : List ℕ) → EndsBefore P cs → take (longest P (w ++ cs)) (w ++ cs) ≡ w
  taken_before cs h = ap (λ n. take n (w ++ cs)) (longest_before cs h) ∙ take-append_seam w cs

  pub after_before : (cs : List ℕ) → EndsBefore P cs → drop (longest P (w ++ cs)) (w ++ cs) ≡ cs
  after_before cs h = ap (λ n. drop n (w ++ cs)) (longest_before cs h) ∙ drop_at w cs (length w) refl
