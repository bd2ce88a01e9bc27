-- What each line of a block does to the stack of the open blocks.
use Rattle.std.proofs.Common.{◌≡◌, ◌∙◌, ℕ, Bool, true, false, ◌&&◌, ◌||◌, not, List, [], ◌∷◌, ◌++◌, take, refl, ap, sym, subst, arith}
use Rattle.std.proofs.lemmas.Slice.Zip.{all_zipped_more}
use Rattle.std.proofs.Math.Bool.{or-true, or-false}
use Rattle.pp_lexer.specs.Lexed.{Seen}
use Rattle.pp_model.specs.Blocks.{block_lines, opens, is_else, Block, open_blocks, blocks_at, Truths, is_live, has_else}
use Rattle.pp_model.specs.declared.block.BlockLine.{BlockLine}
use Rattle.pp_model.specs.declared.block.Part.TheVariants as part
use Rattle.pp_macros.specs.inner.OpenBlocks.{IsSettled, StandsForBlock, StandForBlocks}
use Rattle.pp_macros.specs.declared.blocks.OpenBlock.{OpenBlock}
use Rattle.pp_rs.proofs.blocks.InnerBlocksLemmas.{parts_block}
use Rattle.pp_rs.proofs.blocks.OpenBlocksLemmas.{opened, parted, opens_one, closes_one, parts_one}
use Rattle.pp_rs.proofs.blocks.BlockPositionLemmas.{LiesBefore, blocks_lie_before, last_lies_before, around_lie_before}
use Rattle.pp_rs.proofs.blocks.TruthLemmas.{with_truth, IsUnread, is_live_before, surroundings_before}
use Rattle.pp_rs.proofs.blocks.BranchLemmas as branch
use Rattle.pp_rs.proofs.blocks.BlockStackLemmas.{stands_innermost, stand_before}

-- the line is the only line of a block from its position on, up to the next one
abbrev pub AddsLine : List Seen → BlockLine → ℕ → Type 0
AddsLine source line next = block_lines 0 (take next source) ≡ block_lines 0 (take line.position source) ++ line ∷ []

module _ (source : List Seen) (line : BlockLine) (next : ℕ) (adds : AddsLine source line next) where
  now_opened : line.part ≡ part.Opens → blocks_at source next ≡ blocks_at source line.position ++ opened line ∷ []
  now_opened is = ap open_blocks adds ∙ opens_one (block_lines 0 (take line.position source)) line is

  now_parted : (before : List Block) (block : Block) → parts_block line.part 0 ≡ true → blocks_at source line.position ≡ before ++ block ∷ []
      → blocks_at source next ≡ before ++ parted block line ∷ []
  now_parted before block is e = ap open_blocks adds ∙ parts_one (block_lines 0 (take line.position source)) line before block is e

  now_closed : (before : List Block) (block : Block) → line.part ≡ part.Closes → blocks_at source line.position ≡ before ++ block ∷ []
      → blocks_at source next ≡ before
  now_closed before block is e = ap open_blocks adds ∙ closes_one (block_lines 0 (take line.position source)) line before block is e

  stand_for_more : (truths : Truths) (outer : List OpenBlock) (last : OpenBlock) (before : List Block) (block : Block)
      → blocks_at source next ≡ before ++ block ∷ []
      → StandForBlocks source truths outer before → StandsForBlock source truths last block
      → StandForBlocks source truths (outer ++ last ∷ []) (blocks_at source next)
  stand_for_more truths outer last before block e s h =
      subst (λ (blocks : List Block). StandForBlocks source truths (outer ++ last ∷ []) blocks) (sym e)
      (all_zipped_more (StandsForBlock source truths) outer before last block s h)

  module _ (truths : Truths) where
    -- a line that opens a block in live text: its condition is read
    pub opens_read : (holds : Bool) (kept : List OpenBlock) → line.part ≡ part.Opens → is_live source truths line.position ≡ true
        → StandForBlocks source truths kept (blocks_at source line.position)
        → StandForBlocks source (with_truth line.position holds truths)
        (kept ++ record { word = line.word; live_around = true; taken = holds; with_else = false; chosen = holds } ∷ []) (blocks_at source next)
    opens_read holds kept is live s =
        stand_for_more (with_truth line.position holds truths) kept _ (blocks_at source line.position) (opened line) (now_opened is)
        (stand_before source line.position holds truths kept (blocks_at source line.position) (blocks_lie_before source line.position) s) (record {
          word = refl;
          live_around = is_live_before line.position holds truths source line.position (omega arith) ∙ live;
          taken = branch.opened_taken truths line holds (ap opens is);
          with_else = refl;
          chosen = branch.opened_live truths line holds (ap opens is);
          settled = branch.opened_settled truths line holds (ap opens is);
        })

    module _ (unread : IsUnread line.position truths) where
      -- a line that opens a block in dead text: its condition is not read
      pub opens_unread : (kept : List OpenBlock) → line.part ≡ part.Opens → is_live source truths line.position ≡ false
          → StandForBlocks source truths kept (blocks_at source line.position)
          → StandForBlocks source truths
          (kept ++ record { word = line.word; live_around = false; taken = false; with_else = false; chosen = false } ∷ []) (blocks_at source next)
      opens_unread kept is dead s =
          stand_for_more truths kept _ (blocks_at source line.position) (opened line) (now_opened is) s (record {
            word = refl;
            live_around = dead;
            taken = branch.unread_taken truths line (ap opens is) unread;
            with_else = refl;
            chosen = branch.unread_live truths line (ap opens is) unread;
            settled = branch.unread_settled truths line (ap opens is) unread;
          })

    module _ (outer : List OpenBlock) (kept : OpenBlock) (s : StandForBlocks source truths (outer ++ kept ∷ []) (blocks_at source line.position)) where
      -- an `#endif`
      pub closes_last : line.part ≡ part.Closes → StandForBlocks source truths outer (blocks_at source next)
      closes_last is =
          let i = stands_innermost source truths outer kept (blocks_at source line.position) s in
          subst (λ (blocks : List Block). StandForBlocks source truths outer blocks) (sym (now_closed i.before i.block is i.split)) i.around

      -- an `#else`
      pub parts_else : line.part ≡ part.Else → IsUnread line.position truths
          → StandForBlocks source truths (outer ++ record kept { with_else = true; chosen = kept.live_around && not kept.taken } ∷ []) (blocks_at source next)
      parts_else is unread =
          let i = stands_innermost source truths outer kept (blocks_at source line.position) s in
          stand_for_more truths outer _ i.before (parted i.block line) (now_parted i.before i.block (ap (λ p. parts_block p 0) is) i.split) i.around (record {
            word = i.stands.word;
            live_around = i.stands.live_around;
            taken = branch.else_taken kept.live_around truths i.block line is unread i.stands.settled ∙ i.stands.taken;
            with_else = branch.else_parted i.block line ∙ ap (λ other. has_else i.block || other) (ap is_else is) ∙ or-true (has_else i.block);
            chosen = branch.else_live kept.live_around truths i.block line is unread i.stands.settled
                ∙ ap (λ taken. kept.live_around && not taken) i.stands.taken;
            settled = branch.else_settled kept.live_around truths i.block line is unread i.stands.settled;
          })

      -- an `#elif` that is skipped
      pub parts_skipped : line.part ≡ part.Elif → IsUnread line.position truths → kept.live_around && not kept.taken ≡ false
          → StandForBlocks source truths (outer ++ record kept { chosen = false } ∷ []) (blocks_at source next)
      parts_skipped is unread skips =
          let i = stands_innermost source truths outer kept (blocks_at source line.position) s in
          stand_for_more truths outer _ i.before (parted i.block line) (now_parted i.before i.block (ap (λ p. parts_block p 0) is) i.split) i.around (record {
            word = i.stands.word;
            live_around = i.stands.live_around;
            taken = branch.skipped_taken kept.live_around truths i.block line is unread ∙ i.stands.taken;
            with_else = branch.else_parted i.block line ∙ ap (λ other. has_else i.block || other) (ap is_else is)
                ∙ or-false (has_else i.block) ∙ i.stands.with_else;
            chosen = branch.skipped_live kept.live_around truths i.block line is unread;
            settled = branch.skipped_settled kept.live_around truths i.block line is unread
                (ap (λ taken. kept.live_around && not taken) i.stands.taken ∙ skips);
          })

      -- an `#elif` whose condition is read
      pub parts_read : (holds : Bool) → line.part ≡ part.Elif → kept.live_around ≡ true → kept.taken ≡ false
          → StandForBlocks source (with_truth line.position holds truths) (outer ++ record kept { taken = holds; chosen = holds } ∷ []) (blocks_at source next)
      parts_read holds is live untaken =
          let i = stands_innermost source truths outer kept (blocks_at source line.position) s in
          let before : LiesBefore line.position i.block = last_lies_before source line.position i.before i.block [] i.split in
          let settled : IsSettled true truths i.block = subst (λ (around : Bool). IsSettled around truths i.block) live i.stands.settled in
          stand_for_more (with_truth line.position holds truths) outer _ i.before (parted i.block line)
          (now_parted i.before i.block (ap (λ p. parts_block p 0) is) i.split)
          (stand_before source line.position holds truths outer i.before
          (around_lie_before source line.position i.before i.block [] i.split) i.around) (record {
            word = i.stands.word;
            live_around = surroundings_before line.position holds truths source i.block (omega (arith, before.0)) ∙ i.stands.live_around;
            taken = branch.elif_taken truths i.block line holds is before settled (i.stands.taken ∙ untaken);
            with_else = branch.else_parted i.block line ∙ ap (λ other. has_else i.block || other) (ap is_else is)
                ∙ or-false (has_else i.block) ∙ i.stands.with_else;
            chosen = branch.elif_live truths i.block line holds is before settled (i.stands.taken ∙ untaken);
            settled = subst (λ (around : Bool). IsSettled around (with_truth line.position holds truths) (parted i.block line)) (sym live)
                (branch.elif_settled truths i.block line holds is before settled (i.stands.taken ∙ untaken));
          })
