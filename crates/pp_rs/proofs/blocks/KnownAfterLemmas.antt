-- What is known of the blocks that a reader has met stays known after an item, and after the line of a directive.
use Rattle.std.proofs.Common.{◌≡◌, ◌∙◌, ℕ, ◌+◌, ◌-◌, Bool, true, false, ◌||◌, not, List, [], ◌∷◌, ◌++◌, length, take, drop, refl, ap, subst, Option, Some, None, arith}
use Rattle.std.specs.List.{AllByRecursion as Each, cons_option}
use Rattle.pp_lexer.specs.Lexed.{Seen}
use Rattle.pp_lexer.specs.declared.token.Location.{Location}
use Rattle.pp_model.specs.Places.{Fault}
use Rattle.pp_model.specs.Lines.{line_length}
use Rattle.pp_model.specs.Moves.{error_length}
use Rattle.pp_model.specs.Sights.{sight_of}
use Rattle.pp_model.specs.Blocks.{part_of, line_at, block_lines, Block, blocks_at, is_live, are_surroundings_live, has_taken_branch, has_else}
use Rattle.pp_model.specs.inner.Blocks.{line_with}
use Rattle.pp_model.specs.SourceReader.{Suspended, SourceReader}
use Rattle.pp_model.specs.Acts.{advanced_by}
use Rattle.pp_model.specs.inner.Acts.{after_word, after_line, after_condition, block_here}
use Rattle.pp_model.specs.declared.block.Part.{Part}
use Rattle.pp_model.specs.declared.block.Part.TheVariants as part
use Rattle.pp_model.specs.declared.directive.Directive.{Directive}
use Rattle.pp_model.specs.declared.sight.Sight.{Sight}
use Rattle.pp_model.specs.declared.sight.Sight.TheVariants as sight
use Rattle.pp_directives.specs.inner.Lined.{AreLined}
use Rattle.pp_rs.proofs.source.StandsLineLemmas.{block_line}
use Rattle.pp_rs.proofs.blocks.BranchLemmas.{read_untaken}
use Rattle.pp_rs.proofs.blocks.BranchesReadLemmas.{BranchesRead, read_quiet, read_unread, read_opened, read_closed, read_else, read_skipped, read_elif}
use Rattle.pp_macros.proofs.work.DirectiveLineLemmas.{begins_directive, quiet_word}
use Rattle.pp_rs.proofs.blocks.LastLemmas.{last_split}
use Rattle.pp_directives.proofs.EndedLemmas.{ended_further}
use Rattle.pp_directives.proofs.LinedLemmas.{lined_after}
use Rattle.pp_rs.proofs.blocks.LinesBeforeLemmas.{AddsLines, directive_adds}
use Rattle.pp_macros.proofs.work.QuietLemmas.{is_one_item, quiet_one, quiet_item, begins_bare, is_bare}
use Rattle.pp_rs.proofs.source.ErrorFrontLemmas.{ErrorInFront, alone, after_hash, error_in_front}
use Rattle.pp_rs.proofs.source.SkippedLemmas.{bare_quiet, quiet_after_word}

-- it is known at this reader
abbrev pub HasRead : SourceReader → Type 0
HasRead r = BranchesRead r.items r.position r.truths

-- it is known of each text around
abbrev pub HasReadAround : List Suspended → Type 0
HasReadAround around = Each (λ text. BranchesRead text.items text.position text.truths) around

module _ (r : SourceReader) (b : HasRead r) where
  -- one item that adds no line of a block
  pub one_keeps : (shown : Sight) → sight_of (drop r.position r.items) ≡ shown → is_one_item shown ≡ true → HasRead (advanced_by 1 r)
  one_keeps shown e one = read_quiet r.items r.position r.truths b 1 (λ after. quiet_one r.position (drop r.position r.items) after (ap is_one_item e ∙ one))

  -- two items, which are the number sign and the word
  two_keeps : (hash name : Seen) (rest : List Seen) → drop r.position r.items ≡ hash ∷ name ∷ rest
      → ((later : List Seen) → block_lines r.position (hash ∷ name ∷ later) ≡ block_lines (r.position + 2) later) → HasRead (advanced_by 2 r)
  two_keeps hash name rest front quiet = read_quiet r.items r.position r.truths b 2
      (λ after. ap (λ items. block_lines r.position (take 2 items ++ after)) front ∙ quiet after)

  lined_here : AreLined (drop r.position r.items)
  lined_here = lined_after r.position r.items b.lined

  -- an error of the lexer, with the number sign of a directive before it
  pub error_keeps : (fault : Fault) → sight_of (drop r.position r.items) ≡ sight.Fault fault
      → HasRead (advanced_by (error_length (drop r.position r.items)) r)
  error_keeps fault e = go (error_in_front fault (drop r.position r.items) e (ended_further r.position r.items b.ended))
    where
      go : ErrorInFront fault (drop r.position r.items) → HasRead (advanced_by (error_length (drop r.position r.items)) r)
      go (alone f one) =
          rw one (read_quiet r.items r.position r.truths b 1
          (λ after. ap (λ items. block_lines r.position (take 1 items ++ after)) f.front ∙ quiet_item r.position f.first after f.quiet))
      go (after_hash begins hash two) =
          rw two (two_keeps begins.hash begins.name begins.after begins.front (bare_quiet r.position begins (λ position. refl) lined_here))

  -- a number sign without a word
  pub bare_keeps : (shown : Sight) → is_bare shown ≡ true → ((position : ℕ) → line_at position shown ≡ None) → sight_of (drop r.position r.items) ≡ shown
      → HasRead (advanced_by 2 r)
  bare_keeps shown bare none e =
      let found = begins_bare (drop r.position r.items) shown bare e in
      two_keeps found.hash found.name found.after found.front (bare_quiet r.position found none lined_here)

  -- the line of a directive
  module _ (directive : Directive) (word : Location) (e : sight_of (drop r.position r.items) ≡ sight.Directive directive word) where
    -- of which only the word is passed
    pub unknown_keeps : part_of directive ≡ None → HasRead (advanced_by 2 r)
    unknown_keeps its =
        let begun = begins_directive (drop r.position r.items) directive word e in
        two_keeps begun.hash begun.name begun.after begun.front (λ later. quiet_word r.position (drop r.position r.items) later directive word begun its)

    line_adds : (its : Option Part) → part_of directive ≡ its
        → AddsLines r.position (2 + line_length (after_word r)) (drop r.position r.items) (cons_option (line_with r.position word its) [])
    line_adds its is =
        subst (λ (found : Option Part). AddsLines r.position (2 + line_length (after_word r)) (drop r.position r.items)
        (cons_option (line_with r.position word found) [])) is
        (directive_adds r.position (drop r.position r.items) directive word e
        (λ position after. quiet_after_word position (drop r.position r.items) after directive word e lined_here))

    -- which is no line of a block
    pub line_keeps : part_of directive ≡ None → HasRead (after_line r)
    line_keeps its = read_quiet r.items r.position r.truths b (2 + line_length (after_word r)) (line_adds None its)

    -- which opens a block in live text
    pub opening_keeps : part_of directive ≡ Some part.Opens → is_live r.items r.truths r.position ≡ true → (holds : Bool) → HasRead (after_condition r holds)
    opening_keeps its live holds =
        read_opened r.items (block_line r word part.Opens) r.truths b (2 + line_length (after_word r))
        (line_adds (Some part.Opens) its) holds (omega arith) refl live

    -- which opens one in dead text
    pub unread_keeps : part_of directive ≡ Some part.Opens → is_live r.items r.truths r.position ≡ false → HasRead (after_line r)
    unread_keeps its dead =
        read_unread r.items (block_line r word part.Opens) r.truths b (2 + line_length (after_word r))
        (line_adds (Some part.Opens) its) refl dead

    -- which parts or closes the innermost block:
    module _ (block : Block) (found : block_here r ≡ Some block) where
      abbrev outer : List Block
      outer = take (length (blocks_at r.items r.position) - 1) (blocks_at r.items r.position)

      split : blocks_at r.items r.position ≡ outer ++ block ∷ []
      split = last_split (blocks_at r.items r.position) block found

      -- an `#endif`
      pub closing_keeps : part_of directive ≡ Some part.Closes → HasRead (after_line r)
      closing_keeps its =
          read_closed r.items (block_line r word part.Closes) r.truths b (2 + line_length (after_word r))
          (line_adds (Some part.Closes) its) outer block split refl

      -- an `#else`
      pub parting_keeps : part_of directive ≡ Some part.Else → has_else block ≡ false → HasRead (after_line r)
      parting_keeps its none =
          read_else r.items (block_line r word part.Else) r.truths b (2 + line_length (after_word r))
          (line_adds (Some part.Else) its) outer block split none refl

      -- an `#elif` that is skipped
      pub skipping_keeps : part_of directive ≡ Some part.Elif → has_else block ≡ false
          → not (are_surroundings_live r.items r.truths block) || has_taken_branch r.truths block ≡ true → HasRead (after_line r)
      skipping_keeps its none skips =
          read_skipped r.items (block_line r word part.Elif) r.truths b (2 + line_length (after_word r))
          (line_adds (Some part.Elif) its) outer block split none refl skips

      -- an `#elif` whose condition is read
      pub choosing_keeps : part_of directive ≡ Some part.Elif → has_else block ≡ false
          → not (are_surroundings_live r.items r.truths block) || has_taken_branch r.truths block ≡ false → (holds : Bool) → HasRead (after_condition r holds)
      choosing_keeps its none reads holds =
          let n = read_untaken (are_surroundings_live r.items r.truths block) (has_taken_branch r.truths block) reads in
          read_elif r.items (block_line r word part.Elif) r.truths b (2 + line_length (after_word r))
          (line_adds (Some part.Elif) its) outer block split none holds (omega arith) refl n.0 n.1
