-- A line of a directive's word alone in front of a text: once it was read, the text stands for the one behind it.
use Rattle.std.proofs.Common.{◌≡◌, ◌∙◌, ℕ, suc, ◌+◌, Bool, true, false, List, [], ◌∷◌, ◌++◌, length, take, drop, refl, sym, ap, subst, Option, Some, None, arith, append-nil, length-drop}
use Rattle.std.specs.Prelude.{Ok}
use Rattle.std.specs.List.{cons_option}
use Rattle.std.proofs.Math.Bool.{or-true}
use Rattle.std.proofs.lemmas.List.{drop-drop}
use Rattle.pp_lexer.specs.Lexed.{Seen}
use Rattle.pp_lexer.specs.declared.lexer.item.TokenValue.{TokenValue as LexerTokenValue}
use Rattle.pp_lexer.specs.declared.lexer.item.TokenValue.TheVariants.{Hash, NewLine, Ident as LexerIdent}
use Rattle.pp_lexer.specs.declared.token.Location.{Location}
use Rattle.pp_model.specs.Blocks.{Truths, part_of, block_lines, open_blocks, blocks_at}
use Rattle.pp_model.specs.inner.Blocks.{line_with}
use Rattle.pp_model.specs.Faults.{word_line}
use Rattle.pp_model.specs.Names.{Name}
use Rattle.pp_model.specs.Sights.{sight_of, directive_of, is_text}
use Rattle.pp_model.specs.SourceReader.{Suspended, has_directive, is_on_directive_line, has_live_text_before}
use Rattle.pp_model.specs.declared.block.BlockLine.{BlockLine}
use Rattle.pp_model.specs.declared.block.Part.{Part}
use Rattle.pp_model.specs.declared.sight.Sight.TheVariants as sight
use Rattle.pp_directives.specs.inner.Lined.{AreLined, AreEnded, ShowErrors}
use Rattle.pp_macros.specs.inner.OpenBlocks.{AreBefore}
use Rattle.pp_macros.specs.inner.Source.{SuspendedText}
use Rattle.pp_macros.specs.declared.blocks.OpenBlock.{OpenBlock}
use Rattle.pp_rs.specs.inner.StandsPast.{dead_count, StandPast}
use Rattle.pp_rs.specs.inner.Stands.{StandsForText}
use Rattle.pp_rs.proofs.blocks.BlockStepLemmas.{AddsLine}
use Rattle.pp_rs.proofs.blocks.LinesBeforeLemmas.{AreLinesBefore, AddsLines, lines_here, lines_further, adds_one}
use Rattle.pp_rs.proofs.source.DirectiveBeforeLemmas.{AddsDirective, directive_further, apart_further}
use Rattle.pp_rs.proofs.source.DirectivePlaceLemmas.{one_after, off_line_after_end}
use Rattle.pp_rs.proofs.source.TextBeforeLemmas.{text_line}

-- an item of such a line
abbrev word_item : Location → LexerTokenValue → Seen
word_item place value = record {
  item = Ok (record { value = value; location = place; leading_whitespace = true; start_of_line = true });
  had_comments = false;
}

module _ (place : Location) (word : Name) where
  module _ (tail : List Seen) where
    -- the directive of the word is seen
    pub word_seen : sight_of (word_line place word ++ tail) ≡ sight.Directive (directive_of word) place
    word_seen = refl

    pub word_lined : AreLined tail → AreLined (word_line place word ++ tail)
    word_lined lined = (λ within. refl, (λ within. refl, (λ within. let bad : true ≡ false = within in cc, lined)))

    pub word_ended : AreEnded tail → AreEnded (word_line place word ++ tail)
    word_ended ended = (λ within none. cc, (λ within none. cc, (λ within. let bad : true ≡ false = within in cc, ended)))

    pub word_shown : ShowErrors tail → ShowErrors (word_line place word ++ tail)
    word_shown shown = (tt, (tt, (tt, shown)))

    three_lines : (position : ℕ) (found : Option BlockLine) (after : List Seen)
        → cons_option found (block_lines (position + 1 + 1 + 1) after) ≡ cons_option found [] ++ block_lines (position + 3) after
    three_lines position None after = ap (λ p. block_lines p after) (omega arith)
    three_lines position (Some line) after = ap (λ p. line ∷ block_lines p after) (omega arith)

    -- the line adds the line of a block that its word says, if any
    pub word_adds_lines : (position : ℕ)
        → AddsLines position 3 (word_line place word ++ tail) (cons_option (line_with position place (part_of (directive_of word))) [])
    word_adds_lines position after = three_lines position (line_with position place (part_of (directive_of word))) after

    -- and it is a directive
    pub word_adds_directive : AddsDirective 3 (word_line place word ++ tail) true
    word_adds_directive after = refl

  module _ {kept : SuspendedText} {there : Suspended} (s : StandsForText kept there) (tail : List Seen)
      (front : kept.rest ≡ word_line place word ++ tail) where
    items_front : drop there.position there.items ≡ word_line place word ++ tail
    items_front = sym s.rest ∙ front

    adds_here : AddsLines there.position 3 (drop there.position there.items)
        (cons_option (line_with there.position place (part_of (directive_of word))) [])
    adds_here = subst (λ (items : List Seen). AddsLines there.position 3 items (cons_option (line_with there.position place (part_of (directive_of word))) []))
        (sym items_front) (word_adds_lines tail there.position)

    further : AreLinesBefore there.items (there.position + 3)
        (block_lines 0 (take there.position there.items) ++ cons_option (line_with there.position place (part_of (directive_of word))) [])
    further = lines_further there.items there.position 3 (block_lines 0 (take there.position there.items))
        (cons_option (line_with there.position place (part_of (directive_of word))) []) s.lines adds_here

    -- the line of a block is the only one
    pub word_adds : (p : Part) → part_of (directive_of word) ≡ Some p
        → AddsLine there.items (record { position = there.position; word = place; part = p }) (there.position + 3)
    word_adds p is =
        adds_one there.items (record { position = there.position; word = place; part = p }) 3 (block_lines 0 (take there.position there.items)) s.lines
        (subst (λ (found : Option Part). AddsLines there.position 3 (drop there.position there.items) (cons_option (line_with there.position place found) []))
        is adds_here)

    -- a line that is none of a block leaves the blocks open that are open
    pub word_stays : part_of (directive_of word) ≡ None → blocks_at there.items (there.position + 3) ≡ blocks_at there.items there.position
    word_stays none =
        ap open_blocks (lines_here there.items (there.position + 3) _ further
        ∙ ap (λ found. block_lines 0 (take there.position there.items) ++ cons_option (line_with there.position place found) []) none
        ∙ append-nil (block_lines 0 (take there.position there.items)))

    hash_there : drop there.position there.items ≡ word_item place Hash ∷ word_item place (LexerIdent word) ∷ word_item place NewLine ∷ tail
    hash_there = items_front

    end_there : drop (suc (suc there.position)) there.items ≡ word_item place NewLine ∷ tail
    end_there = one_after there.items (suc there.position) (word_item place (LexerIdent word)) (word_item place NewLine ∷ tail)
        (one_after there.items there.position (word_item place Hash) (word_item place (LexerIdent word) ∷ word_item place NewLine ∷ tail) hash_there)

    -- After the line these blocks are open, and these conditions were read.
    pub word_read : (truths : Truths) (blocks : List OpenBlock) (dead : Bool)
        → has_live_text_before there.items truths there.position ≡ has_live_text_before there.items there.truths there.position
        → AreBefore (there.position + 3) truths
        → StandPast (dead_count dead) there.items truths blocks (blocks_at there.items (there.position + 3))
        → StandsForText (record kept { rest = tail; blocks = blocks; has_directive = true; dead_for_good = dead })
        (record there { position = there.position + 3; truths = truths })
    word_read truths blocks dead same before stand = record {
      text = s.text;
      rest = sym (sym (drop-drop 3 there.position there.items) ∙ ap (drop 3) items_front);
      within = omega (arith, s.within, length-drop there.position there.items, ap length items_front);
      line_offset = s.line_offset;
      lined = s.lined;
      ended = s.ended;
      shown = s.shown;
      lines = subst (λ (lines : List BlockLine). AreLinesBefore there.items (there.position + 3) lines)
          (sym (lines_here there.items (there.position + 3) _ further)) further;
      blocks = stand;
      truths = before;
      unfinished = s.unfinished;
      remembers_text = s.remembers_text ∙ sym same
          ∙ sym (text_line there.items truths there.position (word_item place Hash) (word_item place (LexerIdent word)) (word_item place NewLine ∷ tail)
          hash_there refl refl (ap (λ items. is_text (sight_of items)) hash_there));
      remembers_directive = sym (directive_further there.items there.position 3 true s.directives directive_there ∙ or-true (has_directive (take there.position there.items)));
      directives = apart_further there.items there.position 3 true s.directives directive_there;
      off_line = λ live left. ap (is_on_directive_line there.items) (there_three there.position)
          ∙ off_line_after_end there.items (suc (suc there.position)) (word_item place NewLine) tail end_there refl;
    }
      where
        there_three : (n : ℕ) → n + 3 ≡ suc (suc (suc n))
        there_three n = omega arith

        directive_there : AddsDirective 3 (drop there.position there.items) true
        directive_there = subst (λ (items : List Seen). AddsDirective 3 items true) (sym items_front) (word_adds_directive tail)
