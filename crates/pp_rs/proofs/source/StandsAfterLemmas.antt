-- The reader that a source stands for: whether its text is live, its innermost block, and its position some items
-- further on.
use Rattle.std.proofs.Common.{◌≡◌, ◌∙◌, ℕ, Bool, ℤ, ◌+◌, ◌≤◌, List, [], ◌++◌, length, take, drop, ap, sym, subst, arith, append-nil, length-drop}
use Rattle.std.proofs.lemmas.List.{drop-drop}
use Rattle.pp_lexer.specs.Lexed.{Seen}
use Rattle.pp_model.specs.Definitions.{Definitions}
use Rattle.pp_model.specs.Blocks.{Truths, open_blocks, block_lines, blocks_at, is_live}
use Rattle.pp_model.specs.SourceReader.{SourceReader, suspended_of}
use Rattle.pp_model.specs.inner.Acts.{after_word}
use Rattle.pp_model.specs.declared.block.BlockLine.{BlockLine}
use Rattle.pp_macros.specs.inner.Defined.{Defined, meaning_of}
use Rattle.pp_directives.specs.inner.Lined.{AreLined, AreEnded}
use Rattle.pp_macros.specs.inner.OpenBlocks.{is_live_among, AreBefore}
use Rattle.pp_macros.specs.declared.blocks.OpenBlock.{OpenBlock}
use Rattle.pp_directives.specs.inner.Suspending.{suspended}
use Rattle.pp_macros.specs.inner.Source.{SuspendedText, Source, IsAfter}
use Rattle.pp_macros.specs.inner.SourceMoves.{Note}
use Rattle.pp_rs.specs.inner.Stands.{StandsForText, StandForTexts, StandsReading}
use Rattle.pp_rs.specs.inner.StandsPast.{dead_count, StandPast}
use Rattle.pp_rs.proofs.source.FaultLengthLemmas.{live_kept}
use Rattle.pp_directives.proofs.EndedLemmas.{ended_further}
use Rattle.pp_directives.proofs.LinedLemmas.{lined_after}
use Rattle.pp_rs.proofs.blocks.LinesBeforeLemmas.{AreLinesBefore, AddsLines, lines_here, lines_further}
use Rattle.pp_rs.proofs.blocks.RememberedLemmas.{IsRemembered}

module _ (old : Source) (r : SourceReader) (s : StandsReading old r) where
  -- the text there is live where the kept blocks say so
  pub live_now : is_live r.items r.truths r.position ≡ is_live_among old.dead_for_good old.blocks
  live_now = live_kept r s.here

  pub lined_here : AreLined old.rest
  lined_here = subst AreLined (sym s.here.rest) (lined_after r.position r.items s.here.lined)

  pub ended_here : AreEnded old.rest
  ended_here = subst AreEnded (sym s.here.rest) (ended_further r.position r.items s.here.ended)

  pub after_here : after_word r ≡ drop 2 old.rest
  after_here = ap (λ items. drop 2 items) (sym s.here.rest)

  pub remembered_here : IsRemembered old r.items r.truths r.position
  remembered_here = record { text = s.here.remembers_text; directive = s.here.remembers_directive; apart = s.here.directives; off_line = s.here.off_line }

  -- the text that is read, with other numbers of lines
  text_with : (offset other : ℤ) → other ≡ offset
      → StandsForText (record (suspended old) { line_offset = offset }) (record (suspended_of r) { line_offset = other })
  text_with offset other same = record {
    text = s.here.text;
    rest = s.here.rest;
    within = s.here.within;
    line_offset = same;
    lined = s.here.lined;
    ended = s.here.ended;
    shown = s.here.shown;
    lines = s.here.lines;
    blocks = s.here.blocks;
    truths = s.here.truths;
    unfinished = s.here.unfinished;
    remembers_text = s.here.remembers_text;
    remembers_directive = s.here.remembers_directive;
    directives = s.here.directives;
    off_line = s.here.off_line;
  }

  -- with other definitions, another count of contents, and other numbers of lines
  pub stands_with : (definitions : List Defined) (meaning : Definitions) (kept counted : ℕ) (offset other : ℤ) → meaning ≡ meaning_of definitions
      → counted ≡ kept → other ≡ offset
      → StandsReading (record old { definitions = definitions; contents = kept; line_offset = offset })
      (record r { definitions = meaning; contents = counted; line_offset = other })
  stands_with definitions meaning kept counted offset other means counts same = record {
    rules = s.rules;
    here = text_with offset other same;
    around = s.around;
    earlier = s.earlier;
    definitions = means;
    contents = counts;
    unspent = s.unspent;
  }

  -- some items further on
  pub stands_further : (n : ℕ) (definitions : Definitions) (truths : Truths) (more : List BlockLine) (new : Source) {note : Note} {still_open : List OpenBlock}
      → n ≤ length old.rest → IsAfter n note still_open old new → definitions ≡ meaning_of new.definitions → AddsLines r.position n old.rest more
      → StandPast (dead_count old.dead_for_good) r.items truths still_open (blocks_at r.items (r.position + n)) → AreBefore (r.position + n) truths
      → IsRemembered new r.items truths (r.position + n) → StandsReading new (record r
      { position = r.position + n; definitions = definitions; truths = truths })
  stands_further n definitions truths more new within b means adds blocks before remembered =
      let further : AreLinesBefore r.items (r.position + n) (block_lines 0 (take r.position r.items) ++ more) =
      lines_further r.items r.position n (block_lines 0 (take r.position r.items)) more s.here.lines
      (subst (λ (items : List Seen). AddsLines r.position n items more) s.here.rest adds) in
      record {
        rules = s.rules ∙ sym b.rules;
        here = record {
          text = s.here.text ∙ sym b.text;
          rest = b.rest ∙ ap (λ items. drop n items) s.here.rest ∙ drop-drop n r.position r.items;
          within = omega (arith, s.here.within, within, ap length s.here.rest, length-drop r.position r.items);
          line_offset = s.here.line_offset ∙ sym b.line_offset;
          lined = s.here.lined;
          ended = s.here.ended;
          shown = s.here.shown;
          lines = subst (λ (lines : List BlockLine). AreLinesBefore r.items (r.position + n) lines)
              (sym (lines_here r.items (r.position + n) (block_lines 0 (take r.position r.items) ++ more) further)) further;
          blocks = subst (λ (dead : Bool). StandPast (dead_count dead) r.items truths new.blocks (blocks_at r.items (r.position + n))) (sym b.dead_for_good)
              (subst (λ (kept : List OpenBlock). StandPast (dead_count old.dead_for_good) r.items truths kept (blocks_at r.items (r.position + n)))
              (sym b.blocks) blocks);
          truths = before;
          unfinished = s.here.unfinished;
          remembers_text = remembered.text;
          remembers_directive = remembered.directive;
          directives = remembered.apart;
          off_line = remembered.off_line;
        };
        around = subst (λ (texts : List SuspendedText). StandForTexts texts r.around) (sym b.around) s.around;
        earlier = b.earlier ∙ s.earlier;
        definitions = means;
        contents = s.contents ∙ sym b.contents;
        unspent = b.spent;
      }

  -- where no line of a block is added, the same blocks are open
  pub blocks_stay : (n : ℕ) → AddsLines r.position n old.rest [] → blocks_at r.items (r.position + n) ≡ blocks_at r.items r.position
  blocks_stay n adds =
      let further = lines_further r.items r.position n (block_lines 0 (take r.position r.items)) [] s.here.lines
      (subst (λ (items : List Seen). AddsLines r.position n items []) s.here.rest adds) in
      ap open_blocks (lines_here r.items (r.position + n) (block_lines 0 (take r.position r.items) ++ []) further
      ∙ append-nil (block_lines 0 (take r.position r.items)))
