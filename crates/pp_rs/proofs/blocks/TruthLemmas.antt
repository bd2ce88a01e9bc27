-- A condition that is read says nothing of the marks at other positions.
use Rattle.std.proofs.Common.{◌≡◌, ◌≢◌, ◌∙◌, ℕ, ◌≤◌, ◌<◌, Bool, ◌&&◌, ◌||◌, List, [], ◌∷◌, refl, ap, Some, None, ne_eqb, eq-eqb, arith}
use Rattle.std.specs.Prelude.{◌==◌, cond, find, option_map}
use Rattle.std.specs.List.{AllByRecursion as Each, list_any, list_all}
use Rattle.pp_lexer.specs.Lexed.{Seen}
use Rattle.pp_model.specs.Blocks.{Block, blocks_at, Truths, truth_at, is_else, holds_at, fails_at, is_last_chosen, is_live, are_surroundings_live, has_taken_branch}
use Rattle.pp_model.specs.inner.Blocks.{is_known_true, is_known_false, is_branch_live}
use Rattle.pp_model.specs.declared.block.BlockLine.{BlockLine}
use Rattle.pp_macros.specs.inner.OpenBlocks.{marks, AreBefore}
use Rattle.pp_rs.proofs.blocks.BlockPositionLemmas.{each_weaker, LiesBefore, lies_before_later, blocks_lie_before}

-- what was read, and the condition at a position
abbrev pub with_truth : ℕ → Bool → Truths → Truths
with_truth position holds truths = record { position = position; holds = holds } ∷ truths

-- no condition at the position was read
abbrev pub IsUnread : ℕ → Truths → Type 0
IsUnread position truths = truth_at truths position ≡ None

pub truth_here : (position : ℕ) (holds : Bool) (truths : Truths) → truth_at (with_truth position holds truths) position ≡ Some holds
truth_here position holds truths =
    ap (λ same. option_map (λ t. t.holds) (cond same (Some (record { position = position; holds = holds }))
    (find (λ t. t.position == position) truths))) (eq-eqb position position refl)

pub truth_elsewhere : (position other : ℕ) (holds : Bool) (truths : Truths) → position ≢ other
    → truth_at (with_truth position holds truths) other ≡ truth_at truths other
truth_elsewhere position other holds truths h =
    ap (λ same. option_map (λ t. t.holds) (cond same (Some (record { position = position; holds = holds }))
    (find (λ t. t.position == other) truths))) (ne_eqb position other h)

-- where each condition that was read stands before a position, none there was read
pub before_unread : (position : ℕ) (truths : Truths) → AreBefore position truths → IsUnread position truths
before_unread position [] all = refl
before_unread position (truth ∷ truths) all =
    truth_elsewhere truth.position position truth.holds truths (λ e. absurd (omega (arith, all.0, e))) ∙ before_unread position truths all.1

pub before_later : (position later : ℕ) (truths : Truths) → position ≤ later → AreBefore position truths → AreBefore later truths
before_later position later truths h = each_weaker (λ truth. truth.position < position) (λ truth. truth.position < later)
    (λ truth there. omega (arith, there, h)) truths

pub before_more : (position later : ℕ) (holds : Bool) (truths : Truths) → position < later → AreBefore position truths
    → AreBefore later (with_truth position holds truths)
before_more position later holds truths h all = (h, before_later position later truths (omega (arith, h)) all)

-- two lists of truths say the same of a mark
abbrev pub SaySame : Truths → Truths → BlockLine → Type 0
SaySame new old mark = truth_at new mark.position ≡ truth_at old mark.position

module _ (new old : Truths) where
  same_holds : (mark : BlockLine) → SaySame new old mark → holds_at new mark ≡ holds_at old mark
  same_holds mark e = ap (λ truth. is_else mark.part || is_known_true truth) e

  same_fails : (mark : BlockLine) → SaySame new old mark → fails_at new mark ≡ fails_at old mark
  same_fails mark e = ap (λ truth. is_else mark.part || is_known_false truth) e

  pub same_last_chosen : (mark : BlockLine) (later : List BlockLine) → SaySame new old mark → Each (SaySame new old) later
      → is_last_chosen new mark later ≡ is_last_chosen old mark later
  same_last_chosen mark [] e all = same_holds mark e
  same_last_chosen mark (next ∷ later) e all =
      ap (λ fails. fails && is_last_chosen new next later) (same_fails mark e)
      ∙ ap (λ chosen. fails_at old mark && chosen) (same_last_chosen next later all.0 all.1)

  -- they make the same branch of a block live
  pub same_branch_live : (block : Block) → Each (SaySame new old) (marks block) → is_branch_live new block ≡ is_branch_live old block
  same_branch_live block all = same_last_chosen block.first block.partings all.0 all.1

  pub same_blocks_live : (blocks : List Block) → Each (λ block. Each (SaySame new old) (marks block)) blocks
      → list_all (is_branch_live new) blocks ≡ list_all (is_branch_live old) blocks
  same_blocks_live [] all = refl
  same_blocks_live (block ∷ blocks) all =
      ap (λ live. live && list_all (is_branch_live new) blocks) (same_branch_live block all.0)
      ∙ ap (λ live. is_branch_live old block && live) (same_blocks_live blocks all.1)

  same_taken_mark : (lines : List BlockLine) → Each (SaySame new old) lines
      → list_any (λ mark. is_known_true (truth_at new mark.position)) lines ≡ list_any (λ mark. is_known_true (truth_at old mark.position)) lines
  same_taken_mark [] all = refl
  same_taken_mark (mark ∷ later) all =
      ap (λ truth. is_known_true truth || list_any (λ m. is_known_true (truth_at new m.position)) later) all.0
      ∙ ap (λ taken. is_known_true (truth_at old mark.position) || taken) (same_taken_mark later all.1)

  -- and say the same of whether one was taken
  pub same_taken_branch : (block : Block) → Each (SaySame new old) (marks block) → has_taken_branch new block ≡ has_taken_branch old block
  same_taken_branch block all = same_taken_mark (marks block) all

  pub same_all_fail : (lines : List BlockLine) → Each (SaySame new old) lines → list_all (fails_at new) lines ≡ list_all (fails_at old) lines
  same_all_fail [] all = refl
  same_all_fail (mark ∷ later) all =
      ap (λ fails. fails && list_all (fails_at new) later) (same_fails mark all.0) ∙ ap (λ fails. fails_at old mark && fails) (same_all_fail later all.1)

-- a condition that is read at a position, and what lies before it
module _ (position : ℕ) (holds : Bool) (truths : Truths) where
  same_before : (mark : BlockLine) → mark.position < position → SaySame (with_truth position holds truths) truths mark
  same_before mark h = truth_elsewhere position mark.position holds truths (λ e. absurd (omega (arith, h, e)))

  pub same_marks_before : (block : Block) → LiesBefore position block → Each (SaySame (with_truth position holds truths) truths) (marks block)
  same_marks_before block = each_weaker (λ mark. mark.position < position) (SaySame (with_truth position holds truths) truths) same_before (marks block)

  pub branch_live_before : (block : Block) → LiesBefore position block → is_branch_live (with_truth position holds truths) block ≡ is_branch_live truths block
  branch_live_before block before = same_branch_live (with_truth position holds truths) truths block (same_marks_before block before)

  pub taken_branch_before : (block : Block) → LiesBefore position block
      → has_taken_branch (with_truth position holds truths) block ≡ has_taken_branch truths block
  taken_branch_before block before = same_taken_branch (with_truth position holds truths) truths block (same_marks_before block before)

  pub all_fail_before : (block : Block) → LiesBefore position block
      → list_all (fails_at (with_truth position holds truths)) (marks block) ≡ list_all (fails_at truths) (marks block)
  all_fail_before block before = same_all_fail (with_truth position holds truths) truths (marks block) (same_marks_before block before)

  pub blocks_live_before : (blocks : List Block) → Each (LiesBefore position) blocks
      → list_all (is_branch_live (with_truth position holds truths)) blocks ≡ list_all (is_branch_live truths) blocks
  blocks_live_before blocks all =
      same_blocks_live (with_truth position holds truths) truths blocks
      (each_weaker (LiesBefore position) (λ block. Each (SaySame (with_truth position holds truths) truths) (marks block)) same_marks_before blocks all)

  -- a position is live as before, up to where the condition stands
  pub is_live_before : (source : List Seen) (place : ℕ) → place ≤ position
      → is_live source (with_truth position holds truths) place ≡ is_live source truths place
  is_live_before source place h =
      blocks_live_before (blocks_at source place)
      (each_weaker (LiesBefore place) (LiesBefore position) (λ block. lies_before_later place position block h) (blocks_at source place)
      (blocks_lie_before source place))

  pub surroundings_before : (source : List Seen) (block : Block) → block.first.position ≤ position
      → are_surroundings_live source (with_truth position holds truths) block ≡ are_surroundings_live source truths block
  surroundings_before source block h = is_live_before source block.first.position h
