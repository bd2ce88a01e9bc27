-- What is known of each block that was open: where its marks are up to its `#else`, and whether one of them is chosen.
use Rattle.std.proofs.Common.{◌≡◌, ◌∙◌, ℕ, zero, suc, ◌≤◌, ◌<◌, Bool, true, false, ◌&&◌, ◌||◌, not, List, [], ◌∷◌, ◌++◌, length, take, refl, ap, sym, subst, arith}
use Rattle.std.specs.List.{AllByRecursion as Each, list_any}
use Rattle.std.proofs.Math.Seq.{take-length}
use Rattle.std.proofs.Math.Bool.{or-false}
use Rattle.std.proofs.lemmas.Bool.{or_parts}
use Rattle.std.proofs.lemmas.List.{length_push, take-append-le}
use Rattle.pp_lexer.specs.Lexed.{Seen}
use Rattle.pp_model.specs.Blocks.{Truths, Block, opens, is_else, holds_at, is_last_chosen, is_live, are_surroundings_live, has_taken_branch, has_else}
use Rattle.pp_model.specs.BlockLaws.{ElseIsLast}
use Rattle.pp_model.specs.declared.block.BlockLine.{BlockLine}
use Rattle.pp_rs.specs.LiveBranch.{IsChosen}
use Rattle.pp_macros.specs.inner.OpenBlocks.{marks, all_fail, IsSettled}
use Rattle.pp_rs.proofs.blocks.BlockPositionLemmas.{LiesBefore}
use Rattle.pp_rs.proofs.blocks.BranchLemmas.{takes, branch_live_parted, taken_parted, else_parted, settled_before, opens_no_else, opened_live, opened_taken, opened_settled, unread_settled}
use Rattle.pp_rs.proofs.blocks.OpenBlocksLemmas.{opened, parted}
use Rattle.pp_rs.proofs.blocks.TruthLemmas.{with_truth, IsUnread, branch_live_before, taken_branch_before, is_live_before, surroundings_before}

-- some mark of the block is chosen
abbrev pub HasChosen : Truths → Block → Type 0
HasChosen truths block = (mark : ℕ) × IsChosen truths block mark

-- No mark of the block stands after an `#else`. All its conditions were read and are false just where its surroundings are live and no branch
-- was taken. In live surroundings a mark is chosen, where a branch was taken, or the block has an `#else`.
pub record IsBranched (source : List Seen) (truths : Truths) (block : Block) : Type 0 where
  pub begins : is_else block.first.part ≡ false
  pub else_last : ElseIsLast (marks block)
  pub settled : IsSettled (are_surroundings_live source truths block) truths block
  pub covered : are_surroundings_live source truths block ≡ true → has_taken_branch truths block || has_else block ≡ true → HasChosen truths block

each_take : {X : Type 0} (P : X → Type 0) (n : ℕ) (xs : List X) → Each P xs → Each P (take n xs)
each_take P zero xs all = tt
each_take P (suc n) [] all = tt
each_take P (suc n) (x ∷ xs) all = (all.0, each_take P n xs all.1)

-- a condition that is read after a block changes nothing of it
module _ (source : List Seen) (position : ℕ) (holds : Bool) (truths : Truths) where
  chosen_before : (block : Block) (mark : ℕ) → LiesBefore position block → IsChosen truths block mark → IsChosen (with_truth position holds truths) block mark
  chosen_before block mark before c = record {
    stands = c.stands;
    chosen = branch_live_before position holds truths (record { first = block.first; partings = take mark block.partings })
        (before.0, each_take (λ (line : BlockLine). line.position < position) mark block.partings before.1)
        ∙ c.chosen;
  }

  pub branched_before : (block : Block) → LiesBefore position block → IsBranched source truths block
      → IsBranched source (with_truth position holds truths) block
  branched_before block before b =
      let around : are_surroundings_live source (with_truth position holds truths) block ≡ are_surroundings_live source truths block =
      surroundings_before position holds truths source block (omega (arith, before.0)) in
      record {
        begins = b.begins;
        else_last = b.else_last;
        settled = subst (λ (live : Bool). IsSettled live (with_truth position holds truths) block) (sym around)
            (settled_before (are_surroundings_live source truths block) position holds truths block before b.settled);
        covered = λ live any.
            let c = b.covered (sym around ∙ live) (ap (λ taken. taken || has_else block)
            (sym (taken_branch_before position holds truths block before)) ∙ any) in
            (c.0, chosen_before block c.0 before c.1);
      }

  pub all_branched_before : (blocks : List Block) → Each (LiesBefore position) blocks → Each (IsBranched source truths) blocks
      → Each (IsBranched source (with_truth position holds truths)) blocks
  all_branched_before [] before all = tt
  all_branched_before (block ∷ blocks) before all = (branched_before block before.0 all.0, all_branched_before blocks before.1 all.1)

-- a block that a line opens
module _ (source : List Seen) (truths : Truths) (line : BlockLine) (begins : opens line.part ≡ true) where
  -- in live text, where its condition is read
  pub opened_branched : (holds : Bool) → is_live source truths line.position ≡ true → IsBranched source (with_truth line.position holds truths) (opened line)
  opened_branched holds live = record {
    begins = opens_no_else line.part begins;
    else_last = tt;
    settled = subst (λ (around : Bool). IsSettled around (with_truth line.position holds truths) (opened line))
        (sym (is_live_before line.position holds truths source line.position (omega arith) ∙ live)) (opened_settled truths line holds begins);
    covered = λ around any. (
      0,
      record {
        stands = omega arith;
        chosen = opened_live truths line holds begins ∙ sym (opened_taken truths line holds begins)
            ∙ sym (or-false (has_taken_branch (with_truth line.position holds truths) (opened line))) ∙ any;
      },
    );
  }

  -- in dead text, where it is not
  pub unread_branched : IsUnread line.position truths → is_live source truths line.position ≡ false → IsBranched source truths (opened line)
  unread_branched unread dead = record {
    begins = opens_no_else line.part begins;
    else_last = tt;
    settled = subst (λ (around : Bool). IsSettled around truths (opened line)) (sym dead) (unread_settled truths line begins unread);
    covered = λ around any. let bad : false ≡ true = sym dead ∙ around in cc;
  }

none_parts : (first : BlockLine) (partings : List BlockLine) (line : BlockLine) → is_else first.part ≡ false
    → list_any (λ mark. is_else mark.part) partings ≡ false → ElseIsLast (first ∷ (partings ++ line ∷ []))
none_parts first [] line plain none = (plain, tt)
none_parts first (next ∷ later) line plain none =
    let n = or_parts (is_else next.part) (list_any (λ mark. is_else mark.part) later) none in
    (plain, none_parts next later line n.0 n.1)

none_chosen : (other takes : Bool) → other || takes ≡ false → (false || takes) || (false || other) ≡ true → ⊥
none_chosen true takes h k = cc
none_chosen false true h k = cc
none_chosen false false h k = cc

-- a block that has no `#else`, and that a line parts
module _ (source : List Seen) (truths : Truths) (block : Block) (line : BlockLine) (b : IsBranched source truths block) (no_else : has_else block ≡ false) where
  chosen_still : (mark : ℕ) → IsChosen truths block mark → IsChosen truths (parted block line) mark
  chosen_still mark c =
      let within : mark ≤ length block.partings = c.stands in
      record {
        stands = omega (arith, within, length_push block.partings line);
        chosen = ap (λ (lines : List BlockLine). is_last_chosen truths block.first lines) (take-append-le mark block.partings (line ∷ []) within) ∙ c.chosen;
      }

  module _ (around : are_surroundings_live source truths block ≡ true) where
    chosen_now : has_taken_branch truths block ≡ false → holds_at truths line ≡ true → HasChosen truths (parted block line)
    chosen_now untaken holds =
        let failed : all_fail truths block ≡ true =
        b.settled ∙ ap (λ taken. are_surroundings_live source truths block && not taken) untaken ∙ ap (λ live. live && true) around in (
          length (block.partings ++ line ∷ []),
          record {
            stands = omega arith;
            chosen = ap (λ (lines : List BlockLine). is_last_chosen truths block.first lines) (take-length (block.partings ++ line ∷ []))
                ∙ branch_live_parted truths block line ∙ ap (λ fails. fails && holds_at truths line) failed ∙ holds;
          },
        )

    none_there : has_taken_branch truths block ≡ false → has_taken_branch truths (parted block line) || has_else (parted block line) ≡ true
        → (false || takes truths line) || (false || is_else line.part) ≡ true
    none_there untaken any =
        ap (λ taken. (taken || takes truths line) || (false || is_else line.part)) (sym untaken)
        ∙ ap (λ other. (has_taken_branch truths block || takes truths line) || (other || is_else line.part)) (sym no_else)
        ∙ ap (λ taken. taken || (has_else block || is_else line.part)) (sym (taken_parted truths block line))
        ∙ ap (λ other. has_taken_branch truths (parted block line) || other) (sym (else_parted block line)) ∙ any

    covered_by : (taken holds : Bool) → has_taken_branch truths block ≡ taken → holds_at truths line ≡ holds
        → has_taken_branch truths (parted block line) || has_else (parted block line) ≡ true
        → HasChosen truths (parted block line)
    covered_by true holds t h any =
        let c = b.covered around (ap (λ taken. taken || has_else block) t) in
        (c.0, chosen_still c.0 c.1)
    covered_by false true t h any = chosen_now t h
    covered_by false false t h any = absurd (none_chosen (is_else line.part) (takes truths line) h (none_there t any))

  pub parted_branched : IsSettled (are_surroundings_live source truths block) truths (parted block line) → IsBranched source truths (parted block line)
  parted_branched settled = record {
    begins = b.begins;
    else_last = none_parts block.first block.partings line b.begins no_else;
    settled = settled;
    covered = λ around any. covered_by around (has_taken_branch truths block) (holds_at truths line) refl refl any;
  }
