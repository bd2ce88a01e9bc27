-- A stack of the blocks that are open, the outermost first, and whether a position is live.
use Rattle.std.proofs.Common.{◌≡◌, ◌∙◌, ℕ, ◌-◌, Bool, true, ◌&&◌, List, [], ◌∷◌, ◌++◌, length, refl, ap, sym, Option, Some, None, arith}
use Rattle.std.specs.Prelude.{option_map}
use Rattle.std.specs.List.{AllByRecursion as Each, slice_get, list_all}
use Rattle.std.proofs.lemmas.List.{length_push}
use Rattle.std.proofs.lemmas.List.Folds.{list_all-append}
use Rattle.std.proofs.Math.Bool.{and-true}
use Rattle.pp_lexer.specs.Lexed.{Seen}
use Rattle.pp_model.specs.Blocks.{Block, blocks_at, innermost, Truths, is_live, are_surroundings_live}
use Rattle.pp_model.specs.inner.Blocks.{is_branch_live}
use Rattle.pp_macros.specs.inner.OpenBlocks.{StandsForBlock, StandForBlocks}
use Rattle.pp_macros.specs.declared.blocks.OpenBlock.{OpenBlock}
use Rattle.pp_rs.proofs.blocks.BlockPositionLemmas.{LiesBefore}
use Rattle.pp_rs.proofs.blocks.TruthLemmas.{with_truth, branch_live_before, taken_branch_before, surroundings_before}
use Rattle.pp_rs.proofs.blocks.BranchLemmas as branch
use Rattle.pp_rs.proofs.blocks.CutLinesLemmas.{blocks_around}

-- what is there once it was mapped was there before
pub mapped_some : {X Y : Type 0} (f : X → Y) (o : Option X) (y : Y) → option_map f o ≡ Some y → (x : X) × (o ≡ Some x) × (f x ≡ y)
mapped_some f (Some x) y e = (x, refl, cc)
mapped_some f None y e = cc

-- the innermost block is the last one
pub innermost_last : (before : List Block) (block : Block) → innermost (before ++ block ∷ []) ≡ Some block
innermost_last before block = ap (slice_get (before ++ block ∷ [])) count ∙ at_end before
  where
    count : length (before ++ block ∷ []) - 1 ≡ length before
    count = omega (arith, length_push before block)

    at_end : (before : List Block) → slice_get (before ++ block ∷ []) (length before) ≡ Some block
    at_end [] = refl
    at_end (first ∷ before) = at_end before

module _ (source : List Seen) (truths : Truths) (position : ℕ) where
  pub none_open_live : blocks_at source position ≡ [] → is_live source truths position ≡ true
  none_open_live e = ap (list_all (is_branch_live truths)) e

  module _ (before : List Block) (block : Block) (e : blocks_at source position ≡ before ++ block ∷ []) where
    -- a position is live where the branches of all blocks that are open there are
    pub is_live_split : is_live source truths position ≡ list_all (is_branch_live truths) before && is_branch_live truths block
    is_live_split =
        ap (list_all (is_branch_live truths)) e ∙ list_all-append (is_branch_live truths) before (block ∷ [])
        ∙ ap (λ live. list_all (is_branch_live truths) before && live) (and-true (is_branch_live truths block))

    -- the surroundings of the innermost block are live where the branches of the blocks around it are
    pub surroundings_split : are_surroundings_live source truths block ≡ list_all (is_branch_live truths) before
    surroundings_split = ap (list_all (is_branch_live truths)) (blocks_around source position before block [] e)

    -- a position is live where the surroundings of the innermost block are, and its branch
    pub is_live_innermost : is_live source truths position ≡ are_surroundings_live source truths block && is_branch_live truths block
    is_live_innermost = is_live_split ∙ ap (λ live. live && is_branch_live truths block) (sym surroundings_split)

-- the last of the kept blocks stands for the innermost
pub record Innermost (source : List Seen) (truths : Truths) (outer : List OpenBlock) (kept : OpenBlock) (blocks : List Block) : Type 0 where
  pub before : List Block
  pub block : Block
  pub split : blocks ≡ before ++ block ∷ []
  pub around : StandForBlocks source truths outer before
  pub stands : StandsForBlock source truths kept block

module _ (source : List Seen) (truths : Truths) where
  pub stands_innermost : (outer : List OpenBlock) (kept : OpenBlock) (blocks : List Block) → StandForBlocks source truths (outer ++ kept ∷ []) blocks
      → Innermost source truths outer kept blocks
  stands_innermost [] kept [] s = absurd s
  stands_innermost [] kept (block ∷ []) s = record { before = []; block = block; split = refl; around = tt; stands = s.0 }
  stands_innermost [] kept (block ∷ next ∷ blocks) s = absurd s.1
  stands_innermost (first ∷ outer) kept [] s = absurd s
  stands_innermost (first ∷ outer) kept (block ∷ blocks) s =
      let i = stands_innermost outer kept blocks s.1 in
      record { before = block ∷ i.before; block = i.block; split = ap (λ later. block ∷ later) i.split; around = (s.0, i.around); stands = i.stands }

  pub none_stand : (blocks : List Block) → StandForBlocks source truths [] blocks → blocks ≡ []
  none_stand [] s = refl
  none_stand (block ∷ blocks) s = absurd s

  -- where no block is kept, the text is live
  pub live_outside : (position : ℕ) → StandForBlocks source truths [] (blocks_at source position) → is_live source truths position ≡ true
  live_outside position s = none_open_live source truths position (none_stand (blocks_at source position) s)

  -- elsewhere it is live where the last block that is kept has live surroundings and a chosen branch
  pub live_inside : (position : ℕ) (outer : List OpenBlock) (kept : OpenBlock) → StandForBlocks source truths (outer ++ kept ∷ []) (blocks_at source position)
      → is_live source truths position ≡ kept.live_around && kept.chosen
  live_inside position outer kept s =
      let i = stands_innermost outer kept (blocks_at source position) s in
      is_live_innermost source truths position i.before i.block i.split
      ∙ ap (λ live. live && is_branch_live truths i.block) i.stands.live_around ∙ ap (λ live. kept.live_around && live) i.stands.chosen

-- a condition that is read after a block changes nothing of how it is kept
module _ (source : List Seen) (position : ℕ) (holds : Bool) (truths : Truths) where
  stands_before : (kept : OpenBlock) (block : Block) → LiesBefore position block → StandsForBlock source truths kept block
      → StandsForBlock source (with_truth position holds truths) kept block
  stands_before kept block before s = record {
    word = s.word;
    live_around = surroundings_before position holds truths source block (omega (arith, before.0)) ∙ s.live_around;
    taken = taken_branch_before position holds truths block before ∙ s.taken;
    with_else = s.with_else;
    chosen = branch_live_before position holds truths block before ∙ s.chosen;
    settled = branch.settled_before kept.live_around position holds truths block before s.settled;
  }

  pub stand_before : (kept : List OpenBlock) (blocks : List Block) → Each (LiesBefore position) blocks → StandForBlocks source truths kept blocks
      → StandForBlocks source (with_truth position holds truths) kept blocks
  stand_before [] [] before s = tt
  stand_before [] (block ∷ blocks) before s = s
  stand_before (first ∷ kept) [] before s = s
  stand_before (first ∷ kept) (block ∷ blocks) before s = (stands_before first block before.0 s.0, stand_before kept blocks before.1 s.1)
