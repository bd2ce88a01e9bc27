-- What is known of the blocks that a reader has met, and how it stays known when a line of a block is read.
use Rattle.std.proofs.Common.{◌≡◌, ◌∙◌, ◌⊎◌, inl, inr, ℕ, ◌+◌, ◌≤◌, ◌<◌, Bool, true, false, ◌||◌, not, List, [], ◌∷◌, ◌++◌, take, drop, ap, sym, subst, append-nil, Option, Some, None, arith}
use Rattle.std.specs.List.{AllByRecursion as Each, cons_option}
use Rattle.std.proofs.lemmas.Bool.{cases_lt}
use Rattle.pp_lexer.specs.Lexed.{Seen}
use Rattle.pp_model.specs.Blocks.{Truths, Block, block_lines, opens, open_blocks, blocks_at, is_live, are_surroundings_live, has_taken_branch, has_else}
use Rattle.pp_model.specs.declared.block.BlockLine.{BlockLine}
use Rattle.pp_model.specs.declared.block.Part.TheVariants as part
use Rattle.pp_directives.specs.inner.Lined.{AreLined, AreEnded}
use Rattle.pp_macros.specs.inner.OpenBlocks.{IsSettled, AreBefore}
use Rattle.pp_rs.proofs.blocks.BlockPositionLemmas.{each_weaker, each_before, each_after, LiesBefore, lies_before_later, blocks_lie_before, last_lies_before}
use Rattle.pp_rs.proofs.blocks.BranchLemmas.{skipped_dead, else_settled, skipped_settled, elif_settled}
use Rattle.pp_rs.proofs.blocks.BranchedLemmas.{IsBranched, all_branched_before, opened_branched, unread_branched, parted_branched}
use Rattle.pp_rs.proofs.blocks.FewerLinesLemmas.{open_between}
use Rattle.pp_rs.proofs.blocks.LinesBeforeLemmas.{AreLinesBefore, AddsLines, lines_here, lines_further}
use Rattle.pp_rs.proofs.blocks.InnerBlocksLemmas.{parts_block}
use Rattle.pp_rs.proofs.blocks.OpenBlocksLemmas.{opened, parted, opens_one, closes_one, parts_one}
use Rattle.pp_rs.proofs.blocks.TruthLemmas.{with_truth, IsUnread, before_unread, before_later, before_more, surroundings_before}

-- The lines of blocks are those before the position and those after it, the conditions that were read stand before it, and of each block that was
-- open up to it this is known.
pub record BranchesRead (items : List Seen) (position : ℕ) (truths : Truths) : Type 0 where
  pub lined : AreLined items
  pub ended : AreEnded items
  pub lines : AreLinesBefore items position (block_lines 0 (take position items))
  pub before : AreBefore position truths
  pub read : (place : ℕ) → place ≤ position → Each (IsBranched items truths) (blocks_at items place)

each_more : {X : Type 0} (P : X → Type 0) (xs : List X) (last : X) → Each P xs → P last → Each P (xs ++ last ∷ [])
each_more P [] last all h = (h, tt)
each_more P (x ∷ xs) last all h = (all.0, each_more P xs last all.1 h)

abbrev AreBranched : List Seen → Truths → List Block → Type 0
AreBranched items truths blocks = Each (IsBranched items truths) blocks

module _ (items : List Seen) (position : ℕ) (truths : Truths) (b : BranchesRead items position truths) (count : ℕ) where
  module _ (found : Option BlockLine) (adds : AddsLines position count (drop position items) (cons_option found [])) where
    lines_then : AreLinesBefore items (position + count) (block_lines 0 (take position items) ++ cons_option found [])
    lines_then = lines_further items position count (block_lines 0 (take position items)) (cons_option found []) b.lines adds

    -- the lines after these items
    pub lines_now : block_lines 0 (take (position + count) items) ≡ block_lines 0 (take position items) ++ cons_option found []
    lines_now = lines_here items (position + count) (block_lines 0 (take position items) ++ cons_option found []) lines_then

    -- after items that add one line of a block at most, it is known of all blocks, where it is known of those before, and of those that are open there
    pub read_further : (new : Truths) → AreBefore (position + count) new → ((place : ℕ) → place ≤ position → AreBranched items new (blocks_at items place))
        → AreBranched items new (blocks_at items (position + count)) → BranchesRead items (position + count) new
    read_further new before earlier now = record {
      lined = b.lined;
      ended = b.ended;
      lines = subst (λ (lines : List BlockLine). AreLinesBefore items (position + count) lines) (sym lines_now) lines_then;
      before = before;
      read = λ place within. at_place place within (cases_lt position place);
    }
      where
        at_either : (place : ℕ) → (blocks_at items place ≡ blocks_at items position) ⊎ (blocks_at items place ≡ blocks_at items (position + count))
            → AreBranched items new (blocks_at items place)
        at_either place (inl e) = subst (λ (blocks : List Block). AreBranched items new blocks) (sym e) (earlier position (omega arith))
        at_either place (inr e) = subst (λ (blocks : List Block). AreBranched items new blocks) (sym e) now

        at_place : (place : ℕ) → place ≤ position + count → (position < place) ⊎ (place ≤ position) → AreBranched items new (blocks_at items place)
        at_place place within (inr early) = earlier place early
        at_place place within (inl late) = at_either place (open_between items position (position + count) found lines_now place (omega (arith, late)) within)

  -- items that add no line of a block
  pub read_quiet : AddsLines position count (drop position items) [] → BranchesRead items (position + count) truths
  read_quiet adds =
      let same : blocks_at items (position + count) ≡ blocks_at items position =
      ap open_blocks (lines_now None adds ∙ append-nil (block_lines 0 (take position items))) in
      read_further None adds truths (before_later position (position + count) truths (omega arith) b.before) b.read
      (subst (λ (blocks : List Block). AreBranched items truths blocks) (sym same) (b.read position (omega arith)))

-- a line of a block
module _ (items : List Seen) (line : BlockLine) (truths : Truths) (b : BranchesRead items line.position truths)
    (count : ℕ) (adds : AddsLines line.position count (drop line.position items) (line ∷ [])) where
  unread : IsUnread line.position truths
  unread = before_unread line.position truths b.before

  now_open : blocks_at items (line.position + count) ≡ open_blocks (block_lines 0 (take line.position items) ++ line ∷ [])
  now_open = ap open_blocks (lines_now items line.position truths b count (Some line) adds)

  -- no condition is read there
  known_unread : (blocks : List Block) → open_blocks (block_lines 0 (take line.position items) ++ line ∷ []) ≡ blocks
      → AreBranched items truths blocks → BranchesRead items (line.position + count) truths
  known_unread blocks e all =
      read_further items line.position truths b count (Some line) adds truths
      (before_later line.position (line.position + count) truths (omega arith) b.before) b.read
      (subst (λ (bs : List Block). AreBranched items truths bs) (sym (now_open ∙ e)) all)

  -- it opens a block in dead text
  pub read_unread : line.part ≡ part.Opens → is_live items truths line.position ≡ false → BranchesRead items (line.position + count) truths
  read_unread is dead =
      known_unread (blocks_at items line.position ++ opened line ∷ []) (opens_one (block_lines 0 (take line.position items)) line is)
      (each_more (IsBranched items truths) (blocks_at items line.position) (opened line) (b.read line.position (omega arith))
      (unread_branched items truths line (ap opens is) unread dead))

  -- its condition is read
  module _ (holds : Bool) (some : 1 ≤ count) where
    earlier : (place : ℕ) → place ≤ line.position → AreBranched items (with_truth line.position holds truths) (blocks_at items place)
    earlier place h =
        all_branched_before items line.position holds truths (blocks_at items place)
        (each_weaker (LiesBefore place) (LiesBefore line.position) (λ block. lies_before_later place line.position block h) (blocks_at items place)
        (blocks_lie_before items place))
        (b.read place h)

    known_read : (blocks : List Block) → open_blocks (block_lines 0 (take line.position items) ++ line ∷ []) ≡ blocks
        → AreBranched items (with_truth line.position holds truths) blocks
        → BranchesRead items (line.position + count) (with_truth line.position holds truths)
    known_read blocks e all =
        read_further items line.position truths b count (Some line) adds (with_truth line.position holds truths)
        (before_more line.position (line.position + count) holds truths (omega (arith, some)) b.before) earlier
        (subst (λ (bs : List Block). AreBranched items (with_truth line.position holds truths) bs) (sym (now_open ∙ e)) all)

    -- it opens a block in live text
    pub read_opened : line.part ≡ part.Opens → is_live items truths line.position ≡ true
        → BranchesRead items (line.position + count) (with_truth line.position holds truths)
    read_opened is live =
        known_read (blocks_at items line.position ++ opened line ∷ []) (opens_one (block_lines 0 (take line.position items)) line is)
        (each_more (IsBranched items (with_truth line.position holds truths)) (blocks_at items line.position) (opened line)
        (earlier line.position (omega arith)) (opened_branched items truths line (ap opens is) holds live))

  -- where this block is the innermost
  module _ (before : List Block) (block : Block) (split : blocks_at items line.position ≡ before ++ block ∷ []) where
    all_known : AreBranched items truths (before ++ block ∷ [])
    all_known = subst (λ (blocks : List Block). AreBranched items truths blocks) split (b.read line.position (omega arith))

    this_known : IsBranched items truths block
    this_known = (each_after (IsBranched items truths) before (block ∷ []) all_known).0

    -- an `#endif`
    pub read_closed : line.part ≡ part.Closes → BranchesRead items (line.position + count) truths
    read_closed is = known_unread before (closes_one (block_lines 0 (take line.position items)) line before block is split)
        (each_before (IsBranched items truths) before (block ∷ []) all_known)

    module _ (no_else : has_else block ≡ false) where
      parted_unread : parts_block line.part 0 ≡ true → IsSettled (are_surroundings_live items truths block) truths (parted block line)
          → BranchesRead items (line.position + count) truths
      parted_unread is settled =
          known_unread (before ++ parted block line ∷ []) (parts_one (block_lines 0 (take line.position items)) line before block is split)
          (each_more (IsBranched items truths) before (parted block line) (each_before (IsBranched items truths) before (block ∷ []) all_known)
          (parted_branched items truths block line this_known no_else settled))

      -- an `#else`
      pub read_else : line.part ≡ part.Else → BranchesRead items (line.position + count) truths
      read_else is = parted_unread (ap (λ p. parts_block p 0) is)
          (else_settled (are_surroundings_live items truths block) truths block line is unread this_known.settled)

      -- an `#elif` that is skipped
      pub read_skipped : line.part ≡ part.Elif → not (are_surroundings_live items truths block) || has_taken_branch truths block ≡ true
          → BranchesRead items (line.position + count) truths
      read_skipped is skips =
          parted_unread (ap (λ p. parts_block p 0) is)
          (skipped_settled (are_surroundings_live items truths block) truths block line is unread
          (skipped_dead (are_surroundings_live items truths block) (has_taken_branch truths block) skips))

      -- an `#elif` whose condition is read
      pub read_elif : (holds : Bool) → 1 ≤ count → line.part ≡ part.Elif → are_surroundings_live items truths block ≡ true
          → has_taken_branch truths block ≡ false
          → BranchesRead items (line.position + count) (with_truth line.position holds truths)
      read_elif holds some is live untaken =
          let new = with_truth line.position holds truths in
          let lies : LiesBefore line.position block = last_lies_before items line.position before block [] split in
          let all : AreBranched items new (before ++ block ∷ []) =
          subst (λ (blocks : List Block). AreBranched items new blocks) split (earlier holds some line.position (omega arith)) in
          let settled : IsSettled true truths block = subst (λ (around : Bool). IsSettled around truths block) live this_known.settled in
          let around : are_surroundings_live items new block ≡ true =
          surroundings_before line.position holds truths items block (omega (arith, lies.0)) ∙ live in
          known_read holds some (before ++ parted block line ∷ []) (parts_one (block_lines 0 (take line.position items)) line before block
          (ap (λ p. parts_block p 0) is) split)
          (each_more (IsBranched items new) before (parted block line) (each_before (IsBranched items new) before (block ∷ []) all)
          (parted_branched items new block line (each_after (IsBranched items new) before (block ∷ []) all).0 no_else
          (subst (λ (live_around : Bool). IsSettled live_around new (parted block line)) (sym around)
          (elif_settled truths block line holds is lies settled untaken))))
