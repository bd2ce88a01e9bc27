-- The blocks of a text that stands in another one, and of the text around it.
use Rattle.std.proofs.Common.{◌≡◌, ◌∙◌, ◌⊎◌, inl, inr, ℕ, ◌+◌, ◌-◌, ◌≤◌, ◌<◌, Bool, true, false, ◌&&◌, List, [], ◌∷◌, ◌++◌, length, take, drop, refl, ap, sym, arith, append-nil, length-append, length-drop}
use Rattle.std.specs.Prelude.{Some, option_map}
use Rattle.std.specs.List.{list_all}
use Rattle.std.proofs.Math.Nat.{zero-add}
use Rattle.std.proofs.Math.Seq.{take-append-add, take-length}
use Rattle.std.proofs.lemmas.List.{take-append-le, take-take, take-append-drop, length-take}
use Rattle.std.proofs.lemmas.List.Folds.{list_all-append}
use Rattle.pp_lexer.specs.Lexed.{Seen}
use Rattle.pp_lexer.specs.declared.token.Location.{Location}
use Rattle.pp_model.specs.Sights.{sight_of}
use Rattle.pp_model.specs.Blocks.{Truths, truth_at, part_of, line_at, block_lines, opens, Block, open_blocks, blocks_at, innermost, is_last_chosen, is_live}
use Rattle.pp_model.specs.IncludeLaws.{are_closed, inserted_at}
use Rattle.pp_model.specs.inner.Alike.{Pairs}
use Rattle.pp_model.specs.declared.block.BlockLine.{BlockLine}
use Rattle.pp_model.specs.declared.block.Part.{Part}
use Rattle.pp_model.specs.declared.block.Part.TheVariants as part
use Rattle.pp_model.specs.declared.directive.Directive.{Directive}
use Rattle.pp_model.specs.declared.directive.Directive.TheVariants as d
use Rattle.pp_model.specs.declared.sight.Sight.{Sight}
use Rattle.pp_model.specs.declared.sight.Sight.TheVariants as sight
use Rattle.pp_model.proofs.including.MoveLemmas.{parts_or_closes_block}
use Rattle.pp_model.proofs.including.Insertion.{Agree, Fits}
use Rattle.pp_model.proofs.including.PairsLemmas.{pairs_append, pairs_take, pairs_innermost, innermost-append}
use Rattle.pp_model.proofs.including.BlockLinesLemmas.{AlikeLines, lines_alike, ComeFirst, lines_first, lines_append, lines_at_directive, front_line}
use Rattle.pp_model.proofs.including.OpenBlocksLemmas.{open_blocks_append, front_unparted, closed_opens_none, closed_between, none_beside}
use Rattle.pp_model.proofs.including.AlikeBlocksLemmas.{AlikeBlocks, open_alike, are_closed_alike, live_alike, FactsAt, facts_alike, word_alike}

-- what is taken of two lists goes on in the second
take-past : (xs ys : List Seen) (m n : ℕ) → m ≡ length xs + n → take m (xs ++ ys) ≡ xs ++ take n ys
take-past xs ys m n e = rw e (take-append-add xs ys n)

-- of positions nothing is asked
abbrev Anywhere : ℕ → ℕ → Type 0
Anywhere position other = Unit {0}

-- No directive that parts or closes a block stands among closed lines where none of their blocks is open.
module _ (items : List Seen) (closed : are_closed 0 (block_lines 0 items) ≡ true) (i : ℕ) (none : blocks_at items i ≡ []) where
  -- none with this effect on a block
  no_parting : (directive : Directive) (word : Location) (p : Part) → opens p ≡ false → part_of directive ≡ Some p
      → sight_of (drop i items) ≡ sight.Directive directive word → ⊥
  no_parting directive word p begins is e =
      let line : BlockLine = record { position = 0 + i; word = word; part = p } in
      let here = front_line (0 + i) (drop i items) line
      (ap (line_at (0 + i)) e ∙ ap (option_map (λ part. record { position = 0 + i; word = word; part = part })) is) in
      none_beside 0 (block_lines 0 (take i items)) line here.0 begins
      (ap (are_closed 0) (sym (lines_at_directive i 0 items directive word e ∙ ap (λ lines. block_lines 0 (take i items) ++ lines) here.1)) ∙ closed)
      none (λ around h. absurd (omega (arith, h)))

  no_parting_sight : (shown : Sight) → sight_of (drop i items) ≡ shown → parts_or_closes_block shown ≡ false
  no_parting_sight (sight.Directive d.Elif word) e = absurd (no_parting d.Elif word part.Elif refl refl e)
  no_parting_sight (sight.Directive d.Else word) e = absurd (no_parting d.Else word part.Else refl refl e)
  no_parting_sight (sight.Directive d.Endif word) e = absurd (no_parting d.Endif word part.Closes refl refl e)
  no_parting_sight _ e = refl

module _ (M X : List Seen) (q : ℕ) (fits : Fits M X q) where
  -- as many items come before the inserted text
  front_length : length (take q M) ≡ q
  front_length = omega (arith, length-take q M, fits.within)

  -- what comes before a position of the text around the insertion
  take_before : (p : ℕ) → p ≤ q → take p (inserted_at q X M) ≡ take p M
  take_before p h = take-append-le p (take q M) (X ++ drop q M) (omega (arith, front_length, h)) ∙ take-take p q M h

  -- what comes before one of the inserted text
  take_within : (i : ℕ) → i ≤ length X → take (q + i) (inserted_at q X M) ≡ take q M ++ take i X
  take_within i h =
      take-past (take q M) (X ++ drop q M) (q + i) i (omega (arith, front_length))
      ∙ ap (λ items. take q M ++ items) (take-append-le i X (drop q M) h)

  -- before one behind it
  take_behind : (j : ℕ) → take (q + (length X + j)) (inserted_at q X M) ≡ take q M ++ (X ++ take j (drop q M))
  take_behind j =
      take-past (take q M) (X ++ drop q M) (q + (length X + j)) (length X + j) (omega (arith, front_length))
      ∙ ap (λ items. take q M ++ items) (take-append-add X (drop q M) j)

  -- and before that one in the text around it
  take_around : (j : ℕ) → take (q + j) M ≡ take q M ++ take j (drop q M)
  take_around j = ap (take (q + j)) (sym (take-append-drop q M)) ∙ take-past (take q M) (drop q M) (q + j) j (omega (arith, front_length))

  -- the lines of blocks of the first items, and of others after them
  lines_after : (after : List Seen) → block_lines 0 (take q M ++ after) ≡ block_lines 0 (take q M) ++ block_lines q after
  lines_after after =
      lines_append 0 (take q M) after fits.front_lines
      ∙ ap (λ position. block_lines 0 (take q M) ++ block_lines position after) (zero-add (length (take q M)) ∙ front_length)

  -- the inserted lines are closed where they stand
  closed_there : are_closed 0 (block_lines q X) ≡ true
  closed_there = are_closed_alike Anywhere 0 (block_lines q X) (block_lines 0 X) (lines_alike Anywhere q 0 X (λ i h. tt)) ∙ fits.closed

  -- within the text the blocks around it are open, and its own
  pub blocks_within : (i : ℕ) → i ≤ length X → blocks_at (inserted_at q X M) (q + i) ≡ blocks_at M q ++ open_blocks (block_lines q (take i X))
  blocks_within i h =
      let first : ComeFirst (block_lines q (take i X)) (block_lines q X) = lines_first i q X in
      ap (λ items. open_blocks (block_lines 0 items)) (take_within i h) ∙ ap open_blocks (lines_after (take i X))
      ∙ open_blocks_append (block_lines 0 (take q M)) (block_lines q (take i X))
      (front_unparted (block_lines q (take i X)) first.others (ap (are_closed 0) (sym first.split) ∙ closed_there))

  -- behind it those of the text around it are
  blocks_behind : (j : ℕ) → blocks_at (inserted_at q X M) (q + (length X + j))
      ≡ open_blocks (block_lines 0 (take q M) ++ block_lines (q + length X) (take j (drop q M)))
  blocks_behind j =
      ap (λ items. open_blocks (block_lines 0 items)) (take_behind j) ∙ ap open_blocks (lines_after (X ++ take j (drop q M)))
      ∙ ap (λ lines. open_blocks (block_lines 0 (take q M) ++ lines)) (lines_append q X (take j (drop q M)) fits.whole_lines)
      ∙ closed_between (block_lines 0 (take q M)) (block_lines q X) (block_lines (q + length X) (take j (drop q M))) closed_there

  -- and so they are in that text
  blocks_outside : (j : ℕ) → blocks_at M (q + j) ≡ open_blocks (block_lines 0 (take q M) ++ block_lines q (take j (drop q M)))
  blocks_outside j = ap (λ items. open_blocks (block_lines 0 items)) (take_around j) ∙ ap open_blocks (lines_after (take j (drop q M)))

  -- the blocks that are open, if positions are in this relation where they have the same item
  module _ (S : ℕ → ℕ → Type 0) where
    alike_within : ((k : ℕ) → k < length X → S (q + k) k) → (i : ℕ) → i ≤ length X
        → Pairs (AlikeBlocks S) (open_blocks (block_lines q (take i X))) (blocks_at X i)
    alike_within same i h =
        open_alike S (block_lines q (take i X)) (block_lines 0 (take i X))
        (lines_alike S q 0 (take i X) (λ k within. rw zero-add (same k (omega (arith, within, length-take i X)))))

    alike_before : ((k : ℕ) → k < q → S k k) → (p : ℕ) → p ≤ q → Pairs (AlikeBlocks S) (blocks_at (inserted_at q X M) p) (blocks_at M p)
    alike_before same p h =
        rw (take_before p h) (open_alike S (block_lines 0 (take p M)) (block_lines 0 (take p M))
        (lines_alike S 0 0 (take p M) (λ k within. rw zero-add (same k (omega (arith, within, length-take p M, h))))))

    alike_behind : ((k : ℕ) → k < q → S k k) → ((k : ℕ) → S (q + (length X + k)) (q + k)) → (j : ℕ)
        → Pairs (AlikeBlocks S) (blocks_at (inserted_at q X M) (q + (length X + j))) (blocks_at M (q + j))
    alike_behind same later j =
        let front = block_lines 0 (take q M) in
        let here = block_lines q (take j (drop q M)) in
        let there = block_lines (q + length X) (take j (drop q M)) in
        rw (blocks_behind j, blocks_outside j) (open_alike S (front ++ there) (front ++ here) (pairs_append (AlikeLines S) front front there here
        (lines_alike S 0 0 (take q M) (λ k within. rw zero-add (same k (omega (arith, within, front_length)))))
        (lines_alike S (q + length X) q (take j (drop q M)) (λ k within. rw (further k) (later k)))))
      where
        further : (k : ℕ) → q + length X + k ≡ q + (length X + k)
        further k = omega arith

  module _ (outer inner whole : Truths) (agree : Agree q (length X) outer inner whole) where
    -- up to the insertion a position is live as in the text around it
    pub live_before : (p : ℕ) → p ≤ q → is_live (inserted_at q X M) whole p ≡ is_live M outer p
    live_before p h =
        let Read : ℕ → ℕ → Type 0 = λ position other. truth_at whole position ≡ truth_at outer other in
        live_alike Read whole outer (λ position other read. read) (blocks_at (inserted_at q X M) p) (blocks_at M p) (alike_before Read agree.front p h)

    -- within the inserted text it is live if the insertion is in live text, and the position in the text alone
    pub live_within : (i : ℕ) → i ≤ length X → is_live (inserted_at q X M) whole (q + i) ≡ is_live M outer q && is_live X inner i
    live_within i h =
        let is_chosen : Block → Bool = λ block. is_last_chosen whole block.first block.partings in
        let Read : ℕ → ℕ → Type 0 = λ position other. truth_at whole position ≡ truth_at inner other in
        let around : list_all is_chosen (blocks_at M q) ≡ is_live M outer q =
        ap (λ items. list_all is_chosen (open_blocks (block_lines 0 items))) (sym (take_before q (omega arith))) ∙ live_before q (omega arith) in
        let own : list_all is_chosen (open_blocks (block_lines q (take i X))) ≡ is_live X inner i =
        live_alike Read whole inner (λ position other read. read) (open_blocks (block_lines q (take i X))) (blocks_at X i)
        (alike_within Read agree.within i h) in
        ap (list_all is_chosen) (blocks_within i h) ∙ list_all-append is_chosen (blocks_at M q) (open_blocks (block_lines q (take i X)))
        ∙ ap (λ live. live && list_all is_chosen (open_blocks (block_lines q (take i X)))) around ∙ ap (λ live. is_live M outer q && live) own

    -- behind it a position is live as in the text around it
    pub live_behind : (j : ℕ) → is_live (inserted_at q X M) whole (q + (length X + j)) ≡ is_live M outer (q + j)
    live_behind j =
        let Read : ℕ → ℕ → Type 0 = λ position other. truth_at whole position ≡ truth_at outer other in
        live_alike Read whole outer (λ position other read. read) (blocks_at (inserted_at q X M) (q + (length X + j))) (blocks_at M (q + j))
        (alike_behind Read agree.front agree.behind j)

    -- Within the inserted text a line that parts or closes a block depends on the facts of the text alone, if one of its blocks is open.
    pub facts_within : (i : ℕ) → i ≤ length X → is_live M outer q ≡ true
        → (blocks_at X i ≡ []) ⊎ (FactsAt (inserted_at q X M) whole (q + i) ≡ FactsAt X inner i)
    facts_within i h live = by_blocks (open_blocks (block_lines q (take i X))) (blocks_at X i) (alike_within Known known i h) refl (blocks_within i h)
      where
        Known : ℕ → ℕ → Type 0
        Known position other = (truth_at whole position ≡ truth_at inner other) × (is_live (inserted_at q X M) whole position ≡ is_live X inner other)

        known : (k : ℕ) → k < length X → Known (q + k) k
        known k below = (agree.within k below, live_within k (omega arith) ∙ ap (λ around. around && is_live X inner k) live)

        by_blocks : (own alone : List Block) → Pairs (AlikeBlocks Known) own alone → alone ≡ blocks_at X i
            → blocks_at (inserted_at q X M) (q + i) ≡ blocks_at M q ++ own
            → (blocks_at X i ≡ []) ⊎ (FactsAt (inserted_at q X M) whole (q + i) ≡ FactsAt X inner i)
        by_blocks [] [] alike e f = inl (sym e)
        by_blocks (block ∷ blocks) (other ∷ others) alike e f =
            inr (rw (f, ← e, innermost-append (blocks_at M q) block blocks)
            (facts_alike Known (inserted_at q X M) X whole inner (λ position other is. is.0) (λ position other is. is.1)
            (innermost (block ∷ blocks)) (innermost (other ∷ others)) (pairs_innermost (AlikeBlocks Known) (block ∷ blocks) (other ∷ others) alike)))
        by_blocks _ _ alike e f = absurd alike

    -- behind it such a line depends on those of the text around it
    pub facts_behind : (j : ℕ) → FactsAt (inserted_at q X M) whole (q + (length X + j)) ≡ FactsAt M outer (q + j)
    facts_behind j =
        facts_alike Known (inserted_at q X M) M whole outer (λ position other is. is.0) (λ position other is. is.1)
        (innermost (blocks_at (inserted_at q X M) (q + (length X + j)))) (innermost (blocks_at M (q + j)))
        (pairs_innermost (AlikeBlocks Known) (blocks_at (inserted_at q X M) (q + (length X + j))) (blocks_at M (q + j)) (alike_behind Known front behind j))
      where
        Known : ℕ → ℕ → Type 0
        Known position other = (truth_at whole position ≡ truth_at outer other) × (is_live (inserted_at q X M) whole position ≡ is_live M outer other)

        front : (k : ℕ) → k < q → Known k k
        front k below = (agree.front k below, live_before k (omega arith))

        behind : (k : ℕ) → Known (q + (length X + k)) (q + k)
        behind k = (agree.behind k, live_behind k)

  -- the inserted text leaves no block open
  pub none_unfinished : blocks_at X (length X) ≡ []
  none_unfinished =
      ap (λ items. open_blocks (block_lines 0 items)) (take-length X) ∙ ap open_blocks (sym (append-nil (block_lines 0 X)))
      ∙ closed_opens_none 0 (block_lines 0 X) [] fits.closed

  -- the first word of a block that is open behind the inserted text
  words_behind : (u j end around : ℕ) → end ≡ q + (length X + j) → around ≡ q + j
      → option_map (λ b. b.first.word) (innermost (take u (blocks_at (inserted_at q X M) end)))
      ≡ option_map (λ b. b.first.word) (innermost (take u (blocks_at M around)))
  words_behind u j end around e f =
      let there = blocks_at (inserted_at q X M) (q + (length X + j)) in
      let here = blocks_at M (q + j) in
      rw (e, f) (word_alike Anywhere (innermost (take u there)) (innermost (take u here))
      (pairs_innermost (AlikeBlocks Anywhere) (take u there) (take u here)
      (pairs_take (AlikeBlocks Anywhere) u there here (alike_behind Anywhere (λ k below. tt) (λ k. tt) j))))

  -- at the end the blocks of the text around it are unfinished
  pub unfinished_behind : (u : ℕ) → option_map (λ b. b.first.word) (innermost (take u (blocks_at (inserted_at q X M) (length (inserted_at q X M)))))
      ≡ option_map (λ b. b.first.word) (innermost (take u (blocks_at M (length M))))
  unfinished_behind u =
      words_behind u (length M - q) (length (inserted_at q X M)) (length M)
      (simp (length-append, length-drop) (omega (arith, front_length))) (omega (arith, fits.within))

  -- beside all of its blocks the inserted text parts and closes none
  pub parting_is_inside : (i : ℕ) → i < length X → blocks_at X i ≡ [] → parts_or_closes_block (sight_of (drop i X)) ≡ false
  parting_is_inside i h none = no_parting_sight X fits.closed i none (sight_of (drop i X)) refl
