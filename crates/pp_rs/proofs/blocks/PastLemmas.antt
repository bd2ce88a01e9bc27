-- The blocks of a text of which the outermost may be one that an `#elif` outside of all blocks left: whether the text is
-- live, which facts the innermost other one has, and what each line of a block does.
use Rattle.std.proofs.Common.{◌≡◌, ◌∙◌, ℕ, Bool, true, false, ◌&&◌, ◌||◌, not, List, [], ◌∷◌, ◌++◌, length, take, drop, refl, ap, sym, subst, append_assoc, Option, Some, None, arith}
use Rattle.std.specs.List.{AllByRecursion as Each, list_all}
use Rattle.std.proofs.lemmas.List.Folds.{list_all-append}
use Rattle.std.proofs.lemmas.Slice.Zip.{all_zipped_more}
use Rattle.std.proofs.Math.Seq.{drop-append_seam}
use Rattle.std.proofs.Math.Bool.{or-true, or-false, and-true, and-false}
use Rattle.pp_lexer.specs.Lexed.{Seen}
use Rattle.pp_model.specs.Blocks.{block_lines, opens, is_else, Block, open_blocks, blocks_at, Truths, truth_at, is_live, has_taken_branch, has_else}
use Rattle.pp_model.specs.inner.Blocks.{is_branch_live}
use Rattle.pp_model.specs.declared.block.BlockLine.{BlockLine}
use Rattle.pp_model.specs.declared.block.Part.TheVariants as part
use Rattle.pp_macros.specs.inner.OpenBlocks.{last_block, outer_blocks, is_live_in, is_live_among, block_opened, block_unread, block_parted, block_skipped, block_decided, all_fail, IsSettled, StandsForBlock, StandForBlocks}
use Rattle.pp_macros.specs.declared.blocks.OpenBlock.{OpenBlock}
use Rattle.pp_rs.proofs.blocks.FrontLemmas.{SameFront, blocks_same, surroundings_same}
use Rattle.pp_directives.proofs.TextEndLemmas.{no_blocks}
use Rattle.pp_rs.specs.inner.StandsPast.{dead_count, StandPast}
use Rattle.pp_rs.proofs.blocks.InnerBlocksLemmas.{parts_block}
use Rattle.pp_rs.proofs.blocks.OpenBlocksLemmas.{opened, parted, opens_one, closes_one, parts_one}
use Rattle.pp_rs.proofs.blocks.BlockPositionLemmas.{LiesBefore, blocks_lie_before, last_lies_before, each_before, each_after}
use Rattle.pp_rs.proofs.blocks.TruthLemmas.{with_truth, IsUnread, is_live_before, surroundings_before, blocks_live_before}
use Rattle.pp_rs.proofs.blocks.BranchLemmas as branch
use Rattle.pp_rs.proofs.blocks.BlockStackLemmas.{Innermost, stands_innermost, none_stand, stand_before, live_outside, live_inside}
use Rattle.pp_rs.proofs.blocks.BlockStepLemmas.{AddsLine}
use Rattle.pp_rs.proofs.blocks.LastLemmas.{last_split}

none_long : {X : Type 0} (xs : List X) → length xs ≡ 0 → xs ≡ []
none_long [] h = refl
none_long (x ∷ xs) h = absurd (omega (arith, h))

-- where none is such, the kept blocks stand for all
pub past_none : (source : List Seen) (truths : Truths) (kept : List OpenBlock) (blocks : List Block) → StandPast 0 source truths kept blocks
    → StandForBlocks source truths kept blocks
past_none source truths kept blocks s =
    subst (λ (found : List Block). StandForBlocks source truths kept found) (sym (s.split ∙ ap (λ dead. dead ++ s.own) (none_long s.dead s.count))) s.stand

-- and so they do the other way
pub none_past : (source : List Seen) (truths : Truths) (kept : List OpenBlock) (blocks : List Block) → StandForBlocks source truths kept blocks
    → StandPast 0 source truths kept blocks
none_past source truths kept blocks s =
    record { dead = []; own = blocks; split = refl; count = refl; not_live = λ some. absurd (some refl); stand = s }

module _ (source : List Seen) (truths : Truths) where
  stand_as : (kept others : List OpenBlock) (blocks : List Block) → kept ≡ others → StandForBlocks source truths kept blocks
      → StandForBlocks source truths others blocks
  stand_as kept others blocks same s = subst (λ (found : List OpenBlock). StandForBlocks source truths found blocks) same s

  -- the outer ones of the kept blocks and the last one stand for these blocks
  split_last : (kept : List OpenBlock) (last : OpenBlock) (blocks : List Block) → last_block kept ≡ Some last → StandForBlocks source truths kept blocks
      → StandForBlocks source truths (outer_blocks kept ++ last ∷ []) blocks
  split_last kept last blocks e s = stand_as kept (outer_blocks kept ++ last ∷ []) blocks (last_split kept last e) s

  module _ (position : ℕ) where
    live_kept : (kept : List OpenBlock) (last : Option OpenBlock) → last_block kept ≡ last
        → StandForBlocks source truths kept (blocks_at source position) → is_live source truths position ≡ is_live_in last
    live_kept kept None e s = live_outside source truths position (stand_as kept [] (blocks_at source position) (no_blocks kept e) s)
    live_kept kept (Some last) e s = live_inside source truths position (outer_blocks kept) last (split_last kept last (blocks_at source position) e s)

    -- The text is live as the kept blocks say.
    pub live_past : (dead : Bool) (kept : List OpenBlock) → StandPast (dead_count dead) source truths kept (blocks_at source position)
        → is_live source truths position ≡ is_live_among dead kept
    live_past false kept s =
        live_kept kept (last_block kept) refl (past_none source truths kept (blocks_at source position) s)
    live_past true kept s =
        ap (list_all (is_branch_live truths)) s.split ∙ list_all-append (is_branch_live truths) s.dead s.own
        ∙ ap (λ live. live && list_all (is_branch_live truths) s.own) (s.not_live (λ none. absurd (omega (arith, none))))

  module _ (n : ℕ) (kept : List OpenBlock) (blocks : List Block) (s : StandPast n source truths kept blocks) where
    -- those past the dead ones
    pub own_past : drop n blocks ≡ s.own
    own_past = ap (λ k. drop k blocks) (sym s.count) ∙ ap (drop (length s.dead)) s.split ∙ drop-append_seam s.dead s.own

    -- If none is kept, there is none past the dead ones.
    pub none_past_dead : last_block kept ≡ None → drop n blocks ≡ []
    none_past_dead e = own_past ∙ none_stand source truths s.own (stand_as kept [] s.own (no_blocks kept e) s.stand)

    -- If one is kept, it stands for the innermost block past the dead ones.
    pub last_past : (last : OpenBlock) → last_block kept ≡ Some last → Innermost source truths (outer_blocks kept) last (drop n blocks)
    last_past last e =
        subst (λ (found : List Block). Innermost source truths (outer_blocks kept) last found) (sym own_past)
        (stands_innermost source truths (outer_blocks kept) last s.own (split_last kept last s.own e s.stand))

-- ---- other items from a position on, and a condition that is read there

module _ (items others : List Seen) (truths : Truths) (position : ℕ) (same : SameFront position items others) where
  stand_elsewhere : (kept : List OpenBlock) (blocks : List Block) → Each (LiesBefore position) blocks → StandForBlocks items truths kept blocks
      → StandForBlocks others truths kept blocks
  stand_elsewhere [] [] before s = tt
  stand_elsewhere [] (block ∷ blocks) before s = s
  stand_elsewhere (first ∷ kept) [] before s = s
  stand_elsewhere (first ∷ kept) (block ∷ blocks) before s = (
    record {
      word = s.0.word;
      live_around = sym (surroundings_same items others position same truths block (omega (arith, before.0.0))) ∙ s.0.live_around;
      taken = s.0.taken;
      with_else = s.0.with_else;
      chosen = s.0.chosen;
      settled = s.0.settled;
    },
    stand_elsewhere kept blocks before.1 s.1,
  )

  -- The kept blocks stand for those at a position among other items too, if the same come before it.
  pub past_elsewhere : (n : ℕ) (kept : List OpenBlock) → StandPast n items truths kept (blocks_at items position)
      → StandPast n others truths kept (blocks_at others position)
  past_elsewhere n kept s = record {
    dead = s.dead;
    own = s.own;
    split = sym (blocks_same items others position same position (omega arith)) ∙ s.split;
    count = s.count;
    not_live = s.not_live;
    stand = stand_elsewhere kept s.own
        (each_after (LiesBefore position) s.dead s.own
        (subst (λ (found : List Block). Each (LiesBefore position) found) s.split (blocks_lie_before items position))) s.stand;
  }

module _ (source : List Seen) (truths : Truths) (position : ℕ) (holds : Bool) where
  -- a condition that is read at the position changes nothing
  pub past_read : (n : ℕ) (kept : List OpenBlock) → StandPast n source truths kept (blocks_at source position)
      → StandPast n source (with_truth position holds truths) kept (blocks_at source position)
  past_read n kept s =
      let before : Each (LiesBefore position) (s.dead ++ s.own) =
      subst (λ (found : List Block). Each (LiesBefore position) found) s.split (blocks_lie_before source position) in
      record {
        dead = s.dead;
        own = s.own;
        split = s.split;
        count = s.count;
        not_live = λ some. blocks_live_before position holds truths s.dead (each_before (LiesBefore position) s.dead s.own before) ∙ s.not_live some;
        stand = stand_before source position holds truths kept s.own (each_after (LiesBefore position) s.dead s.own before) s.stand;
      }

-- ---- a line of a block

module _ (source : List Seen) (line : BlockLine) (next : ℕ) (adds : AddsLine source line next) where
  now_opened : line.part ≡ part.Opens → blocks_at source next ≡ blocks_at source line.position ++ opened line ∷ []
  now_opened is = ap open_blocks adds ∙ opens_one (block_lines 0 (take line.position source)) line is

  now_parted : (before : List Block) (block : Block) → parts_block line.part 0 ≡ true → blocks_at source line.position ≡ before ++ block ∷ []
      → blocks_at source next ≡ before ++ parted block line ∷ []
  now_parted before block is e = ap open_blocks adds ∙ parts_one (block_lines 0 (take line.position source)) line before block is e

  now_closed : (before : List Block) (block : Block) → line.part ≡ part.Closes → blocks_at source line.position ≡ before ++ block ∷ []
      → blocks_at source next ≡ before
  now_closed before block is e = ap open_blocks adds ∙ closes_one (block_lines 0 (take line.position source)) line before block is e

  module _ (truths : Truths) (n : ℕ) (kept : List OpenBlock) (s : StandPast n source truths kept (blocks_at source line.position)) where
    -- one block more is kept after a line that opens it
    opened_past : (last : OpenBlock) → line.part ≡ part.Opens → StandsForBlock source truths last (opened line)
        → StandPast n source truths (kept ++ last ∷ []) (blocks_at source next)
    opened_past last is h = record {
      dead = s.dead;
      own = s.own ++ opened line ∷ [];
      split = now_opened is ∙ ap (λ found. found ++ opened line ∷ []) s.split ∙ append_assoc s.dead s.own (opened line ∷ []);
      count = s.count;
      not_live = s.not_live;
      stand = all_zipped_more (StandsForBlock source truths) kept s.own last (opened line) s.stand h;
    }

    -- a line that opens a block in dead text
    pub unread_past : line.part ≡ part.Opens → IsUnread line.position truths → is_live source truths line.position ≡ false
        → StandPast n source truths (kept ++ block_unread line.word ∷ []) (blocks_at source next)
    unread_past is unread dead = opened_past (block_unread line.word) is (record {
      word = refl;
      live_around = dead;
      taken = branch.unread_taken truths line (ap opens is) unread;
      with_else = refl;
      chosen = branch.unread_live truths line (ap opens is) unread;
      settled = branch.unread_settled truths line (ap opens is) unread;
    })

    -- A line that opens a block outside of all others, whose condition isn't read: the rest is dead, and the block
    -- stands for none.
    pub dead_past : line.part ≡ part.Opens → IsUnread line.position truths → blocks_at source line.position ≡ []
        → StandPast 1 source truths [] (blocks_at source next)
    dead_past is unread none = record {
      dead = opened line ∷ [];
      own = [];
      split = now_opened is ∙ ap (λ found. found ++ opened line ∷ []) none;
      count = refl;
      not_live = λ some. ap (λ live. live && true) (branch.unread_live truths line (ap opens is) unread);
      stand = tt;
    }

    module _ (last : OpenBlock) (found : last_block kept ≡ Some last) where
      inner_past : Innermost source truths (outer_blocks kept) last s.own
      inner_past = stands_innermost source truths (outer_blocks kept) last s.own (split_last source truths kept last s.own found s.stand)

      inner_split : blocks_at source line.position ≡ (s.dead ++ inner_past.before) ++ inner_past.block ∷ []
      inner_split =
          s.split ∙ ap (λ own. s.dead ++ own) inner_past.split ∙ sym (append_assoc s.dead inner_past.before (inner_past.block ∷ []))

      -- the innermost block is closed
      pub closed_past : line.part ≡ part.Closes → StandPast n source truths (outer_blocks kept) (blocks_at source next)
      closed_past is = record {
        dead = s.dead;
        own = inner_past.before;
        split = now_closed (s.dead ++ inner_past.before) inner_past.block is inner_split;
        count = s.count;
        not_live = s.not_live;
        stand = inner_past.around;
      }

      -- or parted, and is another one then
      parted_past : (now : OpenBlock) → parts_block line.part 0 ≡ true → StandsForBlock source truths now (parted inner_past.block line)
          → StandPast n source truths (outer_blocks kept ++ now ∷ []) (blocks_at source next)
      parted_past now is h = record {
        dead = s.dead;
        own = inner_past.before ++ parted inner_past.block line ∷ [];
        split = now_parted (s.dead ++ inner_past.before) inner_past.block is inner_split
            ∙ append_assoc s.dead inner_past.before (parted inner_past.block line ∷ []);
        count = s.count;
        not_live = s.not_live;
        stand = all_zipped_more (StandsForBlock source truths) (outer_blocks kept) inner_past.before now (parted inner_past.block line)
            inner_past.around h;
      }

      -- An `#elif` whose condition was read and is false: no branch is chosen, and nothing else of the block changes.
      pub failed_past : line.part ≡ part.Elif → truth_at truths line.position ≡ Some false
          → StandPast n source truths (outer_blocks kept ++ block_skipped last ∷ []) (blocks_at source next)
      failed_past is read =
          let i = inner_past in
          let untaken : has_taken_branch truths (parted i.block line) ≡ has_taken_branch truths i.block =
          branch.taken_parted truths i.block line ∙ ap (λ more. has_taken_branch truths i.block || more) (branch.takes_known truths line (Some false) read)
          ∙ or-false (has_taken_branch truths i.block) in
          parted_past (block_skipped last) (ap (λ p. parts_block p 0) is) (record {
            word = i.stands.word;
            live_around = i.stands.live_around;
            taken = untaken ∙ i.stands.taken;
            with_else = branch.else_parted i.block line ∙ ap (λ other. has_else i.block || other) (ap is_else is)
                ∙ or-false (has_else i.block) ∙ i.stands.with_else;
            chosen = branch.branch_live_parted truths i.block line
                ∙ ap (λ holds. all_fail truths i.block && holds) (branch.holds_known truths line (Some false) (ap is_else is) read)
                ∙ and-false (all_fail truths i.block);
            settled = branch.all_fail_parted truths i.block line
                ∙ ap (λ fails. all_fail truths i.block && fails) (branch.fails_known truths line (Some false) (ap is_else is) read)
                ∙ and-true (all_fail truths i.block) ∙ i.stands.settled ∙ ap (λ taken. last.live_around && not taken) (sym untaken);
          })

      -- an `#else`
      pub else_past : line.part ≡ part.Else → IsUnread line.position truths
          → StandPast n source truths (outer_blocks kept ++ block_parted last ∷ []) (blocks_at source next)
      else_past is unread =
          let i = inner_past in
          parted_past (block_parted last) (ap (λ p. parts_block p 0) is) (record {
            word = i.stands.word;
            live_around = i.stands.live_around;
            taken = branch.else_taken last.live_around truths i.block line is unread i.stands.settled ∙ i.stands.taken;
            with_else = branch.else_parted i.block line ∙ ap (λ other. has_else i.block || other) (ap is_else is) ∙ or-true (has_else i.block);
            chosen = branch.else_live last.live_around truths i.block line is unread i.stands.settled
                ∙ ap (λ taken. last.live_around && not taken) i.stands.taken;
            settled = branch.else_settled last.live_around truths i.block line is unread i.stands.settled;
          })

      -- an `#elif` that is skipped
      pub skipped_past : line.part ≡ part.Elif → IsUnread line.position truths → last.live_around && not last.taken ≡ false
          → StandPast n source truths (outer_blocks kept ++ block_skipped last ∷ []) (blocks_at source next)
      skipped_past is unread skips =
          let i = inner_past in
          parted_past (block_skipped last) (ap (λ p. parts_block p 0) is) (record {
            word = i.stands.word;
            live_around = i.stands.live_around;
            taken = branch.skipped_taken last.live_around truths i.block line is unread ∙ i.stands.taken;
            with_else = branch.else_parted i.block line ∙ ap (λ other. has_else i.block || other) (ap is_else is)
                ∙ or-false (has_else i.block) ∙ i.stands.with_else;
            chosen = branch.skipped_live last.live_around truths i.block line is unread;
            settled = branch.skipped_settled last.live_around truths i.block line is unread
                (ap (λ taken. last.live_around && not taken) i.stands.taken ∙ skips);
          })

      -- an `#elif` whose condition is read
      pub decided_past : (holds : Bool) → line.part ≡ part.Elif → last.live_around ≡ true → last.taken ≡ false
          → StandPast n source (with_truth line.position holds truths) (outer_blocks kept ++ block_decided last holds ∷ []) (blocks_at source next)
      decided_past holds is live untaken =
          let i = inner_past in
          let all : Each (LiesBefore line.position) (s.dead ++ s.own) =
          subst (λ (found : List Block). Each (LiesBefore line.position) found) s.split (blocks_lie_before source line.position) in
          let before : LiesBefore line.position i.block = last_lies_before source line.position (s.dead ++ i.before) i.block [] inner_split in
          let around : Each (LiesBefore line.position) i.before =
          each_before (LiesBefore line.position) i.before (i.block ∷ [])
          (subst (λ (found : List Block). Each (LiesBefore line.position) found) i.split (each_after (LiesBefore line.position) s.dead s.own all)) in
          let settled : IsSettled true truths i.block = subst (λ (outer : Bool). IsSettled outer truths i.block) live i.stands.settled in
          record {
            dead = s.dead;
            own = i.before ++ parted i.block line ∷ [];
            split = now_parted (s.dead ++ i.before) i.block (ap (λ p. parts_block p 0) is) inner_split
                ∙ append_assoc s.dead i.before (parted i.block line ∷ []);
            count = s.count;
            not_live = λ some. blocks_live_before line.position holds truths s.dead (each_before (LiesBefore line.position) s.dead s.own all) ∙ s.not_live some;
            stand = all_zipped_more (StandsForBlock source (with_truth line.position holds truths)) (outer_blocks kept) i.before (block_decided last holds)
                (parted i.block line) (stand_before source line.position holds truths (outer_blocks kept) i.before around i.around) (record {
                  word = i.stands.word;
                  live_around = surroundings_before line.position holds truths source i.block (omega (arith, before.0)) ∙ i.stands.live_around;
                  taken = branch.elif_taken truths i.block line holds is before settled (i.stands.taken ∙ untaken);
                  with_else = branch.else_parted i.block line ∙ ap (λ other. has_else i.block || other) (ap is_else is)
                      ∙ or-false (has_else i.block) ∙ i.stands.with_else;
                  chosen = branch.elif_live truths i.block line holds is before settled (i.stands.taken ∙ untaken);
                  settled = subst (λ (outer : Bool). IsSettled outer (with_truth line.position holds truths) (parted i.block line)) (sym live)
                      (branch.elif_settled truths i.block line holds is before settled (i.stands.taken ∙ untaken));
                });
          }

  -- a line that opens a block in live text: its condition is read
  pub read_past : (truths : Truths) (n : ℕ) (kept : List OpenBlock) → StandPast n source truths kept (blocks_at source line.position)
      → (holds : Bool) → line.part ≡ part.Opens → is_live source truths line.position ≡ true
      → StandPast n source (with_truth line.position holds truths) (kept ++ block_opened line.word holds ∷ []) (blocks_at source next)
  read_past truths n kept s holds is live =
      opened_past (with_truth line.position holds truths) n kept (past_read source truths line.position holds n kept s) (block_opened line.word holds) is (record {
        word = refl;
        live_around = is_live_before line.position holds truths source line.position (omega arith) ∙ live;
        taken = branch.opened_taken truths line holds (ap opens is);
        with_else = refl;
        chosen = branch.opened_live truths line holds (ap opens is);
        settled = branch.opened_settled truths line holds (ap opens is);
      })
