-- Which branch of a block is live, and whether one was taken, when a line opens or parts it.
use Rattle.std.proofs.Common.{◌≡◌, ◌∙◌, ℕ, Bool, true, false, ◌&&◌, ◌||◌, not, List, [], ◌∷◌, ◌++◌, refl, ap, sym, Option, Some, None}
use Rattle.std.proofs.Math.Bool.{and-true, and-false, or-false, and_assoc}
use Rattle.std.proofs.lemmas.List.Folds.{list_any-append, list_all-append}
use Rattle.std.specs.List.{list_any, list_all}
use Rattle.pp_model.specs.Blocks.{Block, Truths, truth_at, opens, is_else, holds_at, fails_at, is_last_chosen, has_taken_branch, has_else}
use Rattle.pp_model.specs.inner.Blocks.{is_known_true, is_known_false, is_branch_live}
use Rattle.pp_model.specs.declared.block.BlockLine.{BlockLine}
use Rattle.pp_model.specs.declared.block.Part.{Part}
use Rattle.pp_model.specs.declared.block.Part.TheVariants as part
use Rattle.pp_macros.specs.inner.OpenBlocks.{marks, all_fail, IsSettled}
use Rattle.pp_rs.proofs.blocks.OpenBlocksLemmas.{opened, parted}
use Rattle.pp_rs.proofs.blocks.BlockPositionLemmas.{LiesBefore}
use Rattle.pp_rs.proofs.blocks.TruthLemmas.{with_truth, IsUnread, truth_here, taken_branch_before, all_fail_before}

both : {a b c d : Bool} → a ≡ c → b ≡ d → a && b ≡ c && d
both e f = cc

either : {a b c d : Bool} → a ≡ c → b ≡ d → a || b ≡ c || d
either e f = cc

-- the condition of a mark was read and holds
abbrev pub takes : Truths → BlockLine → Bool
takes truths mark = is_known_true (truth_at truths mark.position)

last_chosen_more : (truths : Truths) (first line : BlockLine) (lines : List BlockLine)
    → is_last_chosen truths first (lines ++ line ∷ []) ≡ list_all (fails_at truths) (first ∷ lines) && holds_at truths line
last_chosen_more truths first line [] = ap (λ fails. fails && holds_at truths line) (sym (and-true (fails_at truths first)))
last_chosen_more truths first line (next ∷ later) =
    ap (λ chosen. fails_at truths first && chosen) (last_chosen_more truths next line later)
    ∙ sym (and_assoc (fails_at truths first) (list_all (fails_at truths) (next ∷ later)) (holds_at truths line))

-- after a line that parts a block, its branch is live where all earlier conditions are false and the line's own holds
pub branch_live_parted : (truths : Truths) (block : Block) (line : BlockLine)
    → is_branch_live truths (parted block line) ≡ all_fail truths block && holds_at truths line
branch_live_parted truths block line = last_chosen_more truths block.first line block.partings

any_more : (test : BlockLine → Bool) (lines : List BlockLine) (line : BlockLine) → list_any test (lines ++ line ∷ []) ≡ list_any test lines || test line
any_more test lines line = list_any-append test lines (line ∷ []) ∙ ap (λ found. list_any test lines || found) (or-false (test line))

pub taken_parted : (truths : Truths) (block : Block) (line : BlockLine)
    → has_taken_branch truths (parted block line) ≡ has_taken_branch truths block || takes truths line
taken_parted truths block line = any_more (takes truths) (marks block) line

pub else_parted : (block : Block) (line : BlockLine) → has_else (parted block line) ≡ has_else block || is_else line.part
else_parted block line = any_more (λ mark. is_else mark.part) block.partings line

all_more : (test : BlockLine → Bool) (lines : List BlockLine) (line : BlockLine) → list_all test (lines ++ line ∷ []) ≡ list_all test lines && test line
all_more test lines line = list_all-append test lines (line ∷ []) ∙ ap (λ found. list_all test lines && found) (and-true (test line))

pub all_fail_parted : (truths : Truths) (block : Block) (line : BlockLine) → all_fail truths (parted block line) ≡ all_fail truths block && fails_at truths line
all_fail_parted truths block line = all_more (fails_at truths) (marks block) line

-- a mark, by the condition that was read at its position, if one was
module _ (truths : Truths) (line : BlockLine) where
  pub takes_known : (truth : Option Bool) → truth_at truths line.position ≡ truth → takes truths line ≡ is_known_true truth
  takes_known truth e = ap is_known_true e

  pub holds_known : (truth : Option Bool) → is_else line.part ≡ false → truth_at truths line.position ≡ truth
      → holds_at truths line ≡ is_known_true truth
  holds_known truth plain e = ap (λ other. other || is_known_true (truth_at truths line.position)) plain ∙ ap is_known_true e

  pub fails_known : (truth : Option Bool) → is_else line.part ≡ false → truth_at truths line.position ≡ truth
      → fails_at truths line ≡ is_known_false truth
  fails_known truth plain e = ap (λ other. other || is_known_false (truth_at truths line.position)) plain ∙ ap is_known_false e

  pub holds_else : is_else line.part ≡ true → holds_at truths line ≡ true
  holds_else is = ap (λ other. other || is_known_true (truth_at truths line.position)) is

  pub fails_else : is_else line.part ≡ true → fails_at truths line ≡ true
  fails_else is = ap (λ other. other || is_known_false (truth_at truths line.position)) is

-- a condition that is read after the block says nothing new of it
pub settled_before : (live : Bool) (position : ℕ) (holds : Bool) (truths : Truths) (block : Block) → LiesBefore position block
    → IsSettled live truths block → IsSettled live (with_truth position holds truths) block
settled_before live position holds truths block before settled =
    all_fail_before position holds truths block before ∙ settled
    ∙ ap (λ taken. live && not taken) (sym (taken_branch_before position holds truths block before))

-- where an `#elif` is skipped, no branch of the block can be the first to be taken, and where it is read, one can
pub skipped_dead : (live taken : Bool) → not live || taken ≡ true → live && not taken ≡ false
skipped_dead true true h = refl
skipped_dead true false h = cc
skipped_dead false taken h = refl

pub read_untaken : (live taken : Bool) → not live || taken ≡ false → (live ≡ true) × (taken ≡ false)
read_untaken true false h = (refl, refl)
read_untaken true true h = cc
read_untaken false taken h = cc

-- a line that opens a block is no `#else`
pub opens_no_else : (p : Part) → opens p ≡ true → is_else p ≡ false
opens_no_else part.Else h = cc
opens_no_else _ h = refl

-- A block that a line opens in live text: its condition is read.
module _ (truths : Truths) (line : BlockLine) (holds : Bool) (begins : opens line.part ≡ true) where
  pub opened_live : is_branch_live (with_truth line.position holds truths) (opened line) ≡ holds
  opened_live =
      holds_known (with_truth line.position holds truths) line (Some holds) (opens_no_else line.part begins) (truth_here line.position holds truths)

  pub opened_taken : has_taken_branch (with_truth line.position holds truths) (opened line) ≡ holds
  opened_taken = or-false (takes (with_truth line.position holds truths) line)
      ∙ takes_known (with_truth line.position holds truths) line (Some holds) (truth_here line.position holds truths)

  pub opened_settled : IsSettled true (with_truth line.position holds truths) (opened line)
  opened_settled =
      and-true (fails_at (with_truth line.position holds truths) line)
      ∙ fails_known (with_truth line.position holds truths) line (Some holds) (opens_no_else line.part begins) (truth_here line.position holds truths)
      ∙ ap not (sym opened_taken)

-- A block that a line opens in dead text: its condition is not read.
module _ (truths : Truths) (line : BlockLine) (begins : opens line.part ≡ true) (unread : IsUnread line.position truths) where
  pub unread_live : is_branch_live truths (opened line) ≡ false
  unread_live = holds_known truths line None (opens_no_else line.part begins) unread

  pub unread_taken : has_taken_branch truths (opened line) ≡ false
  unread_taken = or-false (takes truths line) ∙ takes_known truths line None unread

  pub unread_settled : IsSettled false truths (opened line)
  unread_settled = both (fails_known truths line None (opens_no_else line.part begins) unread) refl

-- An `#else` of the block.
module _ (live : Bool) (truths : Truths) (block : Block) (line : BlockLine) (is : line.part ≡ part.Else) (unread : IsUnread line.position truths)
    (settled : IsSettled live truths block) where
  pub else_live : is_branch_live truths (parted block line) ≡ live && not (has_taken_branch truths block)
  else_live = branch_live_parted truths block line ∙ both refl (holds_else truths line (ap is_else is)) ∙ and-true (all_fail truths block) ∙ settled

  pub else_taken : has_taken_branch truths (parted block line) ≡ has_taken_branch truths block
  else_taken = taken_parted truths block line ∙ either refl (takes_known truths line None unread) ∙ or-false (has_taken_branch truths block)

  pub else_settled : IsSettled live truths (parted block line)
  else_settled =
      all_fail_parted truths block line ∙ both refl (fails_else truths line (ap is_else is)) ∙ and-true (all_fail truths block)
      ∙ settled ∙ ap (λ taken. live && not taken) (sym else_taken)

-- An `#elif` of the block that is skipped: in dead surroundings, or after a branch that was taken.
module _ (live : Bool) (truths : Truths) (block : Block) (line : BlockLine) (is : line.part ≡ part.Elif) (unread : IsUnread line.position truths) where
  pub skipped_live : is_branch_live truths (parted block line) ≡ false
  skipped_live = branch_live_parted truths block line ∙ both refl (holds_known truths line None (ap is_else is) unread) ∙ and-false (all_fail truths block)

  pub skipped_taken : has_taken_branch truths (parted block line) ≡ has_taken_branch truths block
  skipped_taken = taken_parted truths block line ∙ either refl (takes_known truths line None unread) ∙ or-false (has_taken_branch truths block)

  pub skipped_settled : live && not (has_taken_branch truths block) ≡ false → IsSettled live truths (parted block line)
  skipped_settled skips =
      all_fail_parted truths block line ∙ both refl (fails_known truths line None (ap is_else is) unread) ∙ and-false (all_fail truths block)
      ∙ sym skips ∙ ap (λ taken. live && not taken) (sym skipped_taken)

-- An `#elif` of the block whose condition is read: its surroundings are live, and no branch was taken.
module _ (truths : Truths) (block : Block) (line : BlockLine) (holds : Bool) (is : line.part ≡ part.Elif) (before : LiesBefore line.position block)
    (settled : IsSettled true truths block) (untaken : has_taken_branch truths block ≡ false) where
  failed : all_fail (with_truth line.position holds truths) block ≡ true
  failed = all_fail_before line.position holds truths block before ∙ settled ∙ ap not untaken

  pub elif_live : is_branch_live (with_truth line.position holds truths) (parted block line) ≡ holds
  elif_live =
      branch_live_parted (with_truth line.position holds truths) block line
      ∙ both failed (holds_known (with_truth line.position holds truths) line (Some holds) (ap is_else is) (truth_here line.position holds truths))

  pub elif_taken : has_taken_branch (with_truth line.position holds truths) (parted block line) ≡ holds
  elif_taken =
      taken_parted (with_truth line.position holds truths) block line
      ∙ either (taken_branch_before line.position holds truths block before
      ∙ untaken) (takes_known (with_truth line.position holds truths) line (Some holds) (truth_here line.position holds truths))

  pub elif_settled : IsSettled true (with_truth line.position holds truths) (parted block line)
  elif_settled =
      all_fail_parted (with_truth line.position holds truths) block line
      ∙ both failed (fails_known (with_truth line.position holds truths) line (Some holds) (ap is_else is) (truth_here line.position holds truths))
      ∙ ap not (sym elif_taken)
