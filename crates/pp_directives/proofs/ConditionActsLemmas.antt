-- What a line whose value was read does to the source.
use Rattle.pp_lexer.specs.declared.token.Token.{Token}
use Rattle.std.proofs.Common.{◌≡◌, ◌∙◌, ap, subst, ℕ, false, Option, None, ◌-◌, ◌≤◌, Bool, List, [], ◌∷◌, ◌++◌, length, take, refl, sym, Some, Ok, Err, arith}
use Rattle.std.specs.Option.{option_map_or}
use Rattle.std.proofs.Math.Seq.{take-append_seam}
use Rattle.std.proofs.lemmas.List.{length_push}
use Rattle.std.specs.Prelude.{ℤ, pos, ◌-ℤ◌}
use Rattle.pp_lexer.specs.declared.rules.Rules.{Rules}
use Rattle.pp_lexer.specs.declared.token.Location.{Location}
use Rattle.pp_model.specs.Places.{Fault, in_text, unplaced}
use Rattle.pp_model.specs.Lines.{line_length, line_tokens}
use Rattle.pp_model.specs.Reads.{numbered_line}
use Rattle.pp_model.specs.declared.block.Part.TheVariants as part
use Rattle.pp_model.specs.SourceReader.{Earlier}
use Rattle.pp_macros.specs.inner.Defined.{Defined}
use Rattle.pp_macros.specs.inner.OpenBlocks.{last_block, outer_blocks, with_last, block_opened, block_decided, block_branched, BlockChange, unchanged, elif_change, block_change}
use Rattle.pp_macros.specs.declared.blocks.OpenBlock.{OpenBlock}
use Rattle.pp_macros.specs.inner.Source.{SuspendedText, Source, IsAfter, Condition, LineNumber, FirstNumber, offset_from, holds, numbers}
use Rattle.pp_macros.specs.inner.Faults.{LineLeft, nothing_left}
use Rattle.pp_macros.specs.inner.Expander.{Satisfies}
use Rattle.pp_macros.specs.declared.halt.PlacedHalt.{PlacedHalt}
use Rattle.pp_macros.specs.declared.halt.PlacedHalt.TheVariants as halt
use Rattle.pp_directives.specs.inner.DirectiveHalts.{of_expansion}
use Rattle.pp_directives.specs.declared.directive_halt.DirectiveHalt.{DirectiveHalt}
use Rattle.pp_directives.specs.inner.LineReads.{LineTokens}
use Rattle.pp_directives.specs.inner.ReadingLines.{ReadsLine}
use Rattle.pp_directives.specs.inner.SourceActs.{LineAct, taken_after, Acts, HasLeft}
use Rattle.pp_directives.specs.inner.LineHalts.{HasFirst}
use Rattle.pp_macros.specs.inner.SourceLexed.{SourceLexed, unreported_at}
use Rattle.pp_macros.specs.inner.Unreported.{IsMet, ReportsNone}
use Rattle.pp_model.specs.Faults.{is_shown}
use Rattle.pp_model.specs.Moves.{Effect, decides, renumbers, line_move}
use Rattle.pp_macros.specs.inner.SourceMoves.{unnoted}
use Rattle.pp_directives.proofs.LineReadingLemmas.{drop_fewer}
use Rattle.pp_directives.proofs.FaultTakenLemmas.{line_effect, whole_taken, tokens_persist}
use Rattle.pp_directives.proofs.SourceActsLemmas.{source_of}
use Rattle.pp_directives.proofs.UnreportedLemmas.{nothing_met, same_none}
use Rattle.pp_model.specs.Numbering.{list_numbering}

-- the innermost block changes
pub with_last_is : (change : OpenBlock → OpenBlock) (blocks : List OpenBlock) (block : OpenBlock) → last_block blocks ≡ Some block
    → with_last change blocks ≡ outer_blocks blocks ++ change block ∷ []
with_last_is change blocks block last = ap (λ found. outer_blocks blocks ++ option_map_or (λ b. change b ∷ []) found []) last

module _ (rules : Rules) (text : ℕ) (earlier : Earlier) (around : List SuspendedText) (definitions : List Defined) (blocks : List OpenBlock)
    (line_offset : ℤ) (has_text has_directive dead : Bool) (contents : ℕ) (old new : SourceLexed) (word : Location) (line : LineTokens)
    (read : ReadsLine {A = LineTokens} (λ line. line.tokens) line_tokens old (Ok line) new) where
  none_read : ReportsNone rules.passes_dead_errors (unreported_at old) (unreported_at new)
  none_read = same_none rules.passes_dead_errors (unreported_at old) (unreported_at new) read.errors

  after_line : (offset : ℤ) (after : List OpenBlock) → IsAfter (line_length old.rest) unnoted after
      (source_of old rules text earlier around definitions blocks offset has_text has_directive dead contents) (source_of new rules text earlier around definitions after offset has_text has_directive dead contents)
  after_line offset after = record {
    rules = refl;
    text = refl;
    earlier = refl;
    around = refl;
    rest = read.takes.rest;
    blocks = refl;
    line_offset = refl;
    spent = read.takes.spent;
    has_text = refl;
    has_directive = refl;
    dead_for_good = refl;
    contents = refl;
  }

  -- an `#if` opens a block
  module _ (taken : ℕ) (left : LineLeft) where
    pub if_opens : (value : Bool) (after : List OpenBlock) → Condition (in_text text word) line.tokens (list_numbering rules line_offset) definitions (Ok value) → after ≡ blocks ++ block_opened word value ∷ []
        → Acts (record { move = line_move (line_tokens old.rest) (decides word) old.rest; change = block_change (Some part.Opens) word; taken = taken; left = left })
        (source_of old rules text earlier around definitions blocks line_offset has_text has_directive dead contents) (Ok tt) (source_of new rules text earlier around definitions after line_offset has_text has_directive dead contents)
    if_opens value after condition made = record {
      acts = rw (read.is, made) (holds value condition (refl, after_line line_offset _, refl));
      holds = tt;
      errors = none_read;
    }

    -- an `#elif` parts the innermost block
    pub elif_parts : (block : OpenBlock) (value : Bool) (after : List OpenBlock) → Condition (in_text text word) line.tokens (list_numbering rules line_offset) definitions (Ok value)
        → last_block blocks ≡ Some block → after ≡ outer_blocks blocks ++ block_decided block value ∷ []
        → Acts (record { move = line_move (line_tokens old.rest) (decides word) old.rest; change = elif_change; taken = taken; left = left })
        (source_of old rules text earlier around definitions blocks line_offset has_text has_directive dead contents) (Ok tt) (source_of new rules text earlier around definitions after line_offset has_text has_directive dead contents)
    elif_parts block value after condition last made = record {
      acts = rw (read.is, made ∙ sym (with_last_is (block_branched (Some value)) blocks block last))
          (holds value condition (refl, after_line line_offset _, refl));
      holds = tt;
      errors = none_read;
    }

    -- a `#line` numbers the lines after it
    pub line_numbers : (n : ℕ) (offset : ℤ) → LineNumber (in_text text word) line.tokens (list_numbering rules line_offset) definitions (Ok n) → offset ≡ pos n -ℤ pos (numbered_line rules word.line)
        → Acts (record { move = line_move (line_tokens old.rest) (renumbers word) old.rest; change = unchanged; taken = taken; left = left })
        (source_of old rules text earlier around definitions blocks line_offset has_text has_directive dead contents) (Ok tt) (source_of new rules text earlier around definitions blocks offset has_text has_directive dead contents)
    line_numbers n offset number made = record {
      acts = rw (read.is, made) (numbers n number (refl, after_line (pos n -ℤ pos (numbered_line rules word.line)) blocks, refl));
      holds = tt;
      errors = none_read;
    }

  -- the whole line was taken, and nothing but the blocks and the numbers of the lines may have changed
  kept : (effect : List Token → Effect) → ((tokens : List Token) → is_shown (effect tokens) ≡ false) → (change : BlockChange) (after : List OpenBlock) (offset : ℤ)
      → after ≡ change None blocks → length after ≤ length blocks
      → HasLeft (taken_after (λ items. (line_move (line_tokens items) effect items).effect) (take (line_length old.rest) old.rest))
      (record { change = change; undefined = None; is_directive = false; is_dead = false })
      (source_of old rules text earlier around definitions blocks offset has_text has_directive dead contents)
      (source_of new rules text earlier around definitions after offset has_text has_directive dead contents)
  kept effect hides change after offset made few = record {
    rules = refl;
    text = refl;
    earlier = refl;
    around = refl;
    contents = refl;
    has_text = refl;
    rest = read.takes.rest ∙ sym (whole_taken line_tokens (λ items. (line_move (line_tokens items) effect items).effect) tokens_persist
        (λ items. line_effect (line_tokens items) effect items hides) refl old.rest line.tokens read.is);
    further = read.takes.further;
    fewer = omega (arith, few, drop_fewer old.rest new.rest (line_length old.rest) read.takes.rest);
    blocks = made;
    definitions = refl;
    line_offset = refl;
    has_directive = refl;
    dead_for_good = refl;
    spent = read.takes.spent;
  }

  nothing_more : (fault : Fault) → IsMet fault (unreported_at old) (unreported_at new)
  nothing_more fault = nothing_met fault (unreported_at old) (unreported_at new) read.errors

  -- the condition of an `#if` or `#elif` is at fault, and what stays of its line was done already
  pub condition_failed : (change stays : BlockChange) (after : List OpenBlock) → after ≡ stays None blocks → length after ≤ length blocks → (h : PlacedHalt)
      → Satisfies {A = Bool} (Err h) (Condition (in_text text word) line.tokens (list_numbering rules line_offset) definitions)
      → Acts (record {
        move = line_move (line_tokens old.rest) (decides word) old.rest;
        change = change;
        taken = taken_after (λ items. (line_move (line_tokens items) (decides word) items).effect) (take (line_length old.rest) old.rest);
        left = record { change = stays; undefined = None; is_directive = false; is_dead = false };
      }) (source_of old rules text earlier around definitions blocks line_offset has_text has_directive dead contents) (Err (of_expansion h))
      (source_of new rules text earlier around definitions after line_offset has_text has_directive dead contents)
  condition_failed change stays after made few (halt.Fault fault) condition =
      record { acts = rw read.is (fault, condition, refl, kept (decides word) (λ tokens. refl) stays after line_offset made few); holds = tt; errors = nothing_more (unplaced fault) }
  condition_failed change stays after made few halt.OutOfMemory condition = record { acts = tt; holds = tt; errors = tt }

  -- so is the number of a `#line`, after which the lines count from its first number
  pub number_failed : (number : Option ℕ) (offset : ℤ) (h : PlacedHalt) → Satisfies {A = ℕ} (Err h) (LineNumber (in_text text word) line.tokens (list_numbering rules line_offset) definitions)
      → HasFirst h number (FirstNumber (in_text text word) line.tokens (list_numbering rules line_offset) definitions)
      → offset ≡ offset_from (source_of old rules text earlier around definitions blocks line_offset has_text has_directive dead contents) word number
      → Acts (record {
        move = line_move (line_tokens old.rest) (renumbers word) old.rest;
        change = unchanged;
        taken = taken_after (λ items. (line_move (line_tokens items) (renumbers word) items).effect) (take (line_length old.rest) old.rest);
        left = nothing_left;
      }) (source_of old rules text earlier around definitions blocks line_offset has_text has_directive dead contents) (Err (of_expansion h))
      (source_of new rules text earlier around definitions blocks offset has_text has_directive dead contents)
  number_failed number offset (halt.Fault fault) found first made =
      record { acts = rw (read.is, made) (fault, number, found, first, refl, kept (renumbers word) (λ tokens. refl) unchanged blocks _ refl (omega arith)); holds = tt; errors = nothing_more (unplaced fault) }
  number_failed number offset halt.OutOfMemory found first made = record { acts = tt; holds = tt; errors = tt }

-- the same of sources that are equal to these
pub same_acts : (act : Source → LineAct) (h : DirectiveHalt) (old new s t : Source) → s ≡ old → t ≡ new → Acts (act s) s (Err h) t → Acts (act old) old (Err h) new
same_acts act h old new s t before after acts =
    subst (λ (n : Source). Acts (act old) old (Err h) n) after (subst (λ (o : Source). Acts (act o) o (Err h) t) before acts)

-- a block in the place of the innermost one, which was put in such a place itself
pub replaced_twice : (blocks mid after : List OpenBlock) (first second : OpenBlock) → mid ≡ outer_blocks blocks ++ first ∷ []
    → after ≡ outer_blocks mid ++ second ∷ [] → after ≡ outer_blocks blocks ++ second ∷ []
replaced_twice blocks mid after first second once twice =
    let outer = outer_blocks blocks in
    let all : length (outer ++ first ∷ []) - 1 ≡ length outer = omega (arith, length_push outer first) in
    twice ∙ ap (λ (bs : List OpenBlock). outer_blocks bs ++ second ∷ []) once
    ∙ ap (λ k. take k (outer ++ first ∷ []) ++ second ∷ []) all ∙ ap (λ (bs : List OpenBlock). bs ++ second ∷ []) (take-append_seam outer (first ∷ []))
