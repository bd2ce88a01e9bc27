-- Of a block's marks at most one is chosen.
use Rattle.std.proofs.Common.{◌≡◌, ℕ, zero, suc, ◌≤◌, Bool, true, false, ◌&&◌, ◌||◌, List, [], ◌∷◌, ◌++◌, length, take, refl, ap, arith, Option, Some, None}
use Rattle.std.specs.List.{list_any}
use Rattle.std.proofs.lemmas.Bool.{and_parts}
use Rattle.pp_model.specs.Blocks.{Truths, is_else, truth_at, holds_at, fails_at, is_last_chosen}
use Rattle.pp_model.specs.inner.Blocks.{is_known_true, is_known_false}
use Rattle.pp_model.specs.BlockLaws.{ElseIsLast, OneBranch, NoneAfterTaken}
use Rattle.pp_model.specs.declared.block.BlockLine.{BlockLine}

-- a condition does not both hold and fail
not_both_known : (truth : Option Bool) (other : Bool) → other ≡ false → other || is_known_true truth ≡ true → other || is_known_false truth ≡ true → ⊥
not_both_known truth true e h k = cc
not_both_known (Some true) false e h k = cc
not_both_known (Some false) false e h k = cc
not_both_known None false e h k = cc

not_both_at : (truths : Truths) (mark : BlockLine) → is_else mark.part ≡ false → holds_at truths mark ≡ true → fails_at truths mark ≡ true → ⊥
not_both_at truths mark = not_both_known (truth_at truths mark.position) (is_else mark.part)

one_mark : (truths : Truths) (mark : BlockLine) (marks : List BlockLine) (k n : ℕ) → ElseIsLast (mark ∷ marks) → k ≤ length marks → n ≤ length marks
    → is_last_chosen truths mark (take k marks) ≡ true → is_last_chosen truths mark (take n marks) ≡ true → k ≡ n
one_mark truths mark marks zero zero last i j h k = refl
one_mark truths mark [] zero (suc n) last i j h k = absurd (omega (arith, j))
one_mark truths mark [] (suc m) n last i j h k = absurd (omega (arith, i))
one_mark truths mark (next ∷ later) zero (suc n) last i j h k =
    absurd (not_both_at truths mark last.0 h (and_parts (fails_at truths mark) (is_last_chosen truths next (take n later)) k).0)
one_mark truths mark (next ∷ later) (suc m) zero last i j h k =
    absurd (not_both_at truths mark last.0 k (and_parts (fails_at truths mark) (is_last_chosen truths next (take m later)) h).0)
one_mark truths mark (next ∷ later) (suc m) (suc n) last i j h k =
    let first = (and_parts (fails_at truths mark) (is_last_chosen truths next (take m later)) h).1 in
    let second = (and_parts (fails_at truths mark) (is_last_chosen truths next (take n later)) k).1 in
    ap suc (one_mark truths next later m n last.1 (omega (arith, i)) (omega (arith, j)) first second)

pub one_branch : OneBranch
one_branch truths block = one_mark truths block.first block.partings

-- a mark whose condition holds lets no later one be chosen, and the others are asked alike
none_later : (truth : Option Bool) (other taken chosen : Bool) → other ≡ false → is_known_true truth || taken ≡ true
    → (taken ≡ true → chosen ≡ false) → (other || is_known_false truth) && chosen ≡ false
none_later truth true taken chosen e h k = cc
none_later (Some true) false taken chosen e h k = refl
none_later (Some false) false taken chosen e h k = k h
none_later None false taken chosen e h k = refl

none_after : (truths : Truths) (first mark : BlockLine) (marks : List BlockLine) → ElseIsLast (first ∷ (marks ++ (mark ∷ [])))
    → list_any (λ m. is_known_true (truth_at truths m.position)) (first ∷ marks) ≡ true → is_last_chosen truths first (marks ++ (mark ∷ [])) ≡ false
none_after truths first mark [] last taken =
    none_later (truth_at truths first.position) (is_else first.part) false (holds_at truths mark) last.0 taken (λ h. cc)
none_after truths first mark (next ∷ later) last taken =
    none_later (truth_at truths first.position) (is_else first.part) (list_any (λ m. is_known_true (truth_at truths m.position)) (next ∷ later))
    (is_last_chosen truths next (later ++ (mark ∷ []))) last.0 taken
    (λ h. none_after truths next mark later last.1 h)

pub none_after_taken : NoneAfterTaken
none_after_taken truths block mark = none_after truths block.first mark block.partings
