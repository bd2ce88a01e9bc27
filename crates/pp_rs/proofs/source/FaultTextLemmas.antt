-- What a fault leaves of a text: its items are gone, and a line of a word stays for some. The text as it is kept stands
-- for it.
use Rattle.std.proofs.Common.{◌≡◌, ◌≢◌, ◌∙◌, ℕ, ◌+◌, Bool, true, false, ◌||◌, List, [], ◌∷◌, ◌++◌, length, take, drop, refl, sym, ap, subst, append_assoc, Some, None, arith}
use Rattle.std.specs.Prelude.{codes}
use Rattle.pp_lexer.specs.Lexed.{Seen}
use Rattle.pp_lexer.specs.declared.token.Location.{Location}
use Rattle.pp_model.specs.Blocks.{Truths, Block, part_of, blocks_at}
use Rattle.pp_model.specs.Faults.{word_line}
use Rattle.pp_model.specs.IncludeLaws.{are_whole_lines}
use Rattle.pp_model.specs.Names.{Name}
use Rattle.pp_model.specs.Sights.{directive_of}
use Rattle.pp_model.specs.SourceReader.{Suspended, has_live_text_before}
use Rattle.pp_model.specs.declared.block.Part.TheVariants as part
use Rattle.pp_model.specs.declared.directive.Directive.TheVariants as d
use Rattle.pp_directives.specs.inner.Lined.{AreLined, AreEnded, ShowErrors}
use Rattle.pp_directives.proofs.LinedLemmas.{lined_after}
use Rattle.pp_directives.proofs.EndedLemmas.{ended_further}
use Rattle.pp_directives.proofs.TextEndLemmas.{no_blocks}
use Rattle.pp_macros.specs.inner.Faults.{LineLeft}
use Rattle.pp_macros.specs.inner.OpenBlocks.{last_block, outer_blocks, is_live_among, block_unread, block_skipped, StandForBlocks, AreBefore}
use Rattle.pp_macros.specs.inner.Source.{SuspendedText}
use Rattle.pp_macros.specs.declared.blocks.OpenBlock.{OpenBlock}
use Rattle.pp_rs.specs.inner.StandsPast.{dead_count, StandPast}
use Rattle.pp_rs.specs.inner.Stands.{StandsForText}
use Rattle.pp_rs.proofs.blocks.BlockStackLemmas.{none_stand}
use Rattle.pp_rs.proofs.blocks.PastLemmas.{live_past, past_none, past_read, unread_past, dead_past, closed_past, failed_past}
use Rattle.pp_rs.proofs.blocks.TruthLemmas.{with_truth, truth_here, before_unread, before_later, before_more}
use Rattle.pp_rs.proofs.source.JoinLemmas.{Follow, begins, shown_after}
use Rattle.pp_rs.proofs.source.RestLemmas.{with_rest, rest_replaced}
use Rattle.pp_rs.proofs.source.TextBeforeLemmas.{text_before_truth}
use Rattle.pp_rs.proofs.source.WordLineLemmas.{word_lined, word_ended, word_shown, word_adds, word_stays, word_read}

-- the words of the lines that stay
pub word_elif : directive_of (codes "elif") ≡ d.Elif
unfolding directive_of
word_elif = refl

pub word_endif : directive_of (codes "endif") ≡ d.Endif
unfolding directive_of
word_endif = refl

pub word_if : directive_of (codes "if") ≡ d.If
unfolding directive_of
word_if = refl

pub word_pragma : directive_of (codes "pragma") ≡ d.Pragma
unfolding directive_of
word_pragma = refl

-- live text isn't dead for good
not_dead : (dead : Bool) (blocks : List OpenBlock) → is_live_among dead blocks ≡ true → dead ≡ false
not_dead true blocks live = cc
not_dead false blocks live = refl

-- a text after a fault of `count` items for which this line stays, with these conditions
abbrev pub text_left : List Seen → ℕ → Truths → Suspended → Suspended
text_left line count truths there =
    let items = take there.position there.items ++ line ++ drop count (drop there.position there.items) in
    record there { items = items; position = there.position + length line; truths = truths; unfinished = length (blocks_at items (length items)) }

-- the same of a text as it is kept
abbrev pub kept_left : ℕ → LineLeft → SuspendedText → SuspendedText
kept_left count left kept = record kept {
  rest = drop count kept.rest;
  blocks = left.change None kept.blocks;
  has_directive = left.is_directive || kept.has_directive;
  dead_for_good = left.is_dead || kept.dead_for_good;
}

-- the text with these items and conditions, further on, of which all blocks that stay open are still to be reported
abbrev with_items : ℕ → Truths → Suspended → List Seen → Suspended
with_items position truths there items =
    record there { items = items; position = position; truths = truths; unfinished = length (blocks_at items (length items)) }

-- the line and what comes after it stand together
joined_left : (kept : SuspendedText) (line : List Seen) (count : ℕ) (truths : Truths) (there : Suspended)
    → StandsForText kept (with_items (there.position + length line) truths there
    (take there.position there.items ++ (line ++ drop count (drop there.position there.items))))
    → StandsForText kept (text_left line count truths there)
joined_left kept line count truths there =
    subst (λ (items : List Seen). StandsForText kept (with_items (there.position + length line) truths there items))
    (sym (append_assoc (take there.position there.items) line (drop count (drop there.position there.items))))

module _ {kept : SuspendedText} {there : Suspended} (s : StandsForText kept there) (count : ℕ) (some : kept.rest ≢ []) where
  tail_there : drop count kept.rest ≡ drop count (drop there.position there.items)
  tail_there = ap (drop count) s.rest

  lined_tail : AreLined (drop count (drop there.position there.items))
  lined_tail = lined_after count (drop there.position there.items) (lined_after there.position there.items s.lined)

  ended_tail : AreEnded (drop count (drop there.position there.items))
  ended_tail = ended_further count (drop there.position there.items) (ended_further there.position there.items s.ended)

  shown_tail : ShowErrors (drop count (drop there.position there.items))
  shown_tail = shown_after count (drop there.position there.items) (shown_after there.position there.items s.shown)

  -- where no line stays
  pub cut_left : Follow (take there.position there.items) (drop count (drop there.position there.items))
      → StandsForText (record kept { rest = drop count kept.rest }) (text_left [] count there.truths there)
  cut_left follow =
      let none : there.position ≡ there.position + 0 = omega arith in
      let cut : StandsForText (record kept { rest = drop count (drop there.position there.items) })
      (with_rest (drop count (drop there.position there.items)) there) =
      rest_replaced s (drop count (drop there.position there.items)) some follow lined_tail ended_tail shown_tail in
      joined_left (record kept { rest = drop count kept.rest }) [] count there.truths there
      (subst (λ (position : ℕ). StandsForText (record kept { rest = drop count kept.rest })
      (with_items position there.truths there (take there.position there.items ++ drop count (drop there.position there.items)))) none
      (subst (λ (rest : List Seen). StandsForText (record kept { rest = rest }) (with_rest (drop count (drop there.position there.items)) there))
      (sym tail_there) cut))

  -- where a line of a word stays, before it is read
  module _ (place : Location) (word : Name) (whole : are_whole_lines (take there.position there.items) ≡ true) where
    abbrev with_line : Suspended
    with_line = with_rest (word_line place word ++ drop count (drop there.position there.items)) there

    put : StandsForText (record kept { rest = word_line place word ++ drop count (drop there.position there.items) }) with_line
    put = rest_replaced s (word_line place word ++ drop count (drop there.position there.items)) some (begins whole)
        (word_lined place word (drop count (drop there.position there.items)) lined_tail)
        (word_ended place word (drop count (drop there.position there.items)) ended_tail)
        (word_shown place word (drop count (drop there.position there.items)) shown_tail)

    -- and after it
    read : (truths : Truths) (blocks : List OpenBlock) (dead : Bool)
        → has_live_text_before with_line.items truths there.position ≡ has_live_text_before with_line.items there.truths there.position
        → AreBefore (there.position + 3) truths
        → StandPast (dead_count dead) with_line.items truths blocks (blocks_at with_line.items (there.position + 3))
        → StandsForText (record kept { rest = drop count kept.rest; blocks = blocks; has_directive = true; dead_for_good = dead })
        (text_left (word_line place word) count truths there)
    read truths blocks dead same before stand =
        joined_left (record kept { rest = drop count kept.rest; blocks = blocks; has_directive = true; dead_for_good = dead })
        (word_line place word) count truths there
        (subst (λ (rest : List Seen). StandsForText (record kept { rest = rest; blocks = blocks; has_directive = true; dead_for_good = dead })
        (with_items (there.position + 3) truths there with_line.items)) (sym tail_there)
        (word_read place word put (drop count (drop there.position there.items)) refl truths blocks dead same before stand))

    later : AreBefore (there.position + 3) there.truths
    later = before_later there.position (there.position + 3) there.truths (omega arith) s.truths

    -- a line that is none of a block
    pub plain_left : part_of (directive_of word) ≡ None
        → StandsForText (record kept { rest = drop count kept.rest; has_directive = true }) (text_left (word_line place word) count there.truths there)
    plain_left none =
        read there.truths kept.blocks kept.dead_for_good refl later
        (subst (λ (blocks : List Block). StandPast (dead_count kept.dead_for_good) with_line.items there.truths kept.blocks blocks)
        (sym (word_stays place word put (drop count (drop there.position there.items)) refl none)) put.blocks)

    -- an `#endif` of a block
    pub closing_left : part_of (directive_of word) ≡ Some part.Closes → (last : OpenBlock) → last_block kept.blocks ≡ Some last
        → StandsForText (record kept { rest = drop count kept.rest; blocks = outer_blocks kept.blocks; has_directive = true })
        (text_left (word_line place word) count there.truths there)
    closing_left is last found =
        read there.truths (outer_blocks kept.blocks) kept.dead_for_good refl later
        (closed_past with_line.items (record { position = there.position; word = place; part = part.Closes }) (there.position + 3)
        (word_adds place word put (drop count (drop there.position there.items)) refl part.Closes is) there.truths (dead_count kept.dead_for_good)
        kept.blocks put.blocks last found refl)

    -- a line that opens a block in dead text
    pub opening_left : part_of (directive_of word) ≡ Some part.Opens → is_live_among kept.dead_for_good kept.blocks ≡ false
        → StandsForText (record kept { rest = drop count kept.rest; blocks = kept.blocks ++ block_unread place ∷ []; has_directive = true })
        (text_left (word_line place word) count there.truths there)
    opening_left is dead =
        read there.truths (kept.blocks ++ block_unread place ∷ []) kept.dead_for_good refl later
        (unread_past with_line.items (record { position = there.position; word = place; part = part.Opens }) (there.position + 3)
        (word_adds place word put (drop count (drop there.position there.items)) refl part.Opens is) there.truths (dead_count kept.dead_for_good)
        kept.blocks put.blocks refl (before_unread there.position there.truths s.truths)
        (live_past with_line.items there.truths there.position kept.dead_for_good kept.blocks put.blocks ∙ dead))

    -- an `#elif` of a block counts as one whose condition is false
    pub failed_left : part_of (directive_of word) ≡ Some part.Elif → (last : OpenBlock) → last_block kept.blocks ≡ Some last
        → StandsForText (record kept { rest = drop count kept.rest; blocks = outer_blocks kept.blocks ++ block_skipped last ∷ []; has_directive = true })
        (text_left (word_line place word) count (with_truth there.position false there.truths) there)
    failed_left is last found =
        read (with_truth there.position false there.truths) (outer_blocks kept.blocks ++ block_skipped last ∷ []) kept.dead_for_good
        (text_before_truth with_line.items there.position false there.truths there.position (omega arith))
        (before_more there.position (there.position + 3) false there.truths (omega arith) s.truths)
        (failed_past with_line.items (record { position = there.position; word = place; part = part.Elif }) (there.position + 3)
        (word_adds place word put (drop count (drop there.position there.items)) refl part.Elif is) (with_truth there.position false there.truths)
        (dead_count kept.dead_for_good) kept.blocks
        (past_read with_line.items there.truths there.position false (dead_count kept.dead_for_good) kept.blocks put.blocks) last found refl
        (truth_here there.position false there.truths))

    -- an `#elif` outside of all blocks makes the rest dead
    pub dead_left : part_of (directive_of word) ≡ Some part.Opens → is_live_among kept.dead_for_good kept.blocks ≡ true → last_block kept.blocks ≡ None
        → StandsForText (record kept { rest = drop count kept.rest; has_directive = true; dead_for_good = true })
        (text_left (word_line place word) count there.truths there)
    dead_left is live none =
        let alive : kept.dead_for_good ≡ false = not_dead kept.dead_for_good kept.blocks live in
        let empty : kept.blocks ≡ [] = no_blocks kept.blocks none in
        let stands : StandForBlocks with_line.items there.truths kept.blocks (blocks_at with_line.items there.position) =
        past_none with_line.items there.truths kept.blocks (blocks_at with_line.items there.position)
        (subst (λ (dead : Bool). StandPast (dead_count dead) with_line.items there.truths kept.blocks (blocks_at with_line.items there.position)) alive put.blocks) in
        let outside : blocks_at with_line.items there.position ≡ [] =
        none_stand with_line.items there.truths (blocks_at with_line.items there.position)
        (subst (λ (blocks : List OpenBlock). StandForBlocks with_line.items there.truths blocks (blocks_at with_line.items there.position)) empty stands) in
        read there.truths kept.blocks true refl later
        (subst (λ (blocks : List OpenBlock). StandPast 1 with_line.items there.truths blocks (blocks_at with_line.items (there.position + 3))) (sym empty)
        (dead_past with_line.items (record { position = there.position; word = place; part = part.Opens }) (there.position + 3)
        (word_adds place word put (drop count (drop there.position there.items)) refl part.Opens is) there.truths (dead_count kept.dead_for_good)
        kept.blocks put.blocks refl (before_unread there.position there.truths s.truths) outside))
