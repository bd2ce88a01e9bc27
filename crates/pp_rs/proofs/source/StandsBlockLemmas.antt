-- After a line that opens, parts or closes a block the source stands for its reader.
use Rattle.std.proofs.Common.{◌≡◌, ◌∙◌, ◌+◌, Bool, true, false, ◌&&◌, not, List, [], ◌∷◌, ◌++◌, refl, subst, Some, arith}
use Rattle.pp_lexer.specs.Lexed.{Seen}
use Rattle.pp_lexer.specs.declared.token.Location.{Location}
use Rattle.pp_lexer.specs.declared.token.Token.{Token}
use Rattle.pp_model.specs.Sights.{sight_of}
use Rattle.pp_model.specs.Blocks.{part_of}
use Rattle.pp_model.specs.SourceReader.{SourceReader}
use Rattle.pp_model.specs.inner.Acts.{after_line, after_condition}
use Rattle.pp_model.specs.declared.block.Part.{Part}
use Rattle.pp_model.specs.declared.block.Part.TheVariants as part
use Rattle.pp_model.specs.declared.directive.Directive.{Directive}
use Rattle.pp_model.specs.declared.sight.Sight.TheVariants as sight
use Rattle.pp_macros.specs.Item.{PlacedStep}
use Rattle.pp_macros.specs.inner.OpenBlocks.{last_block, outer_blocks, is_live_among, block_opened, block_unread, block_parted, block_skipped, block_decided, AreBefore}
use Rattle.pp_macros.specs.declared.blocks.OpenBlock.{OpenBlock}
use Rattle.pp_macros.specs.inner.SourceMoves.{directive_line}
use Rattle.pp_macros.specs.inner.Source.{Source, Pauses}
use Rattle.pp_rs.specs.inner.Stands.{StandsReading}
use Rattle.pp_rs.proofs.blocks.BlockStepLemmas.{AddsLine}
use Rattle.pp_rs.proofs.blocks.PastLemmas.{read_past, unread_past, closed_past, else_past, skipped_past, decided_past}
use Rattle.pp_rs.specs.inner.StandsPast.{dead_count}
use Rattle.pp_rs.proofs.blocks.LinesBeforeLemmas.{AddsLines, adds_one}
use Rattle.pp_rs.proofs.source.StandsAfterLemmas.{live_now}
use Rattle.pp_rs.proofs.source.TextBeforeLemmas.{text_before_truth}
use Rattle.pp_rs.proofs.blocks.TruthLemmas.{with_truth, before_unread, before_later, before_more}
use Rattle.pp_rs.proofs.source.LinePlaces.{whole_line, PausesAt}
use Rattle.pp_rs.proofs.source.StandsLineLemmas.{block_line, line_adds, block_pauses}

still_before : {old : Source} {r : SourceReader} (s : StandsReading old r) → AreBefore (r.position + whole_line old.rest) r.truths
still_before {old} {r} s = before_later r.position (r.position + whole_line old.rest) r.truths (omega arith) s.here.truths

module _ {old : Source} {r : SourceReader} (s : StandsReading old r)
    {directive : Directive} {word : Location} (e : sight_of old.rest ≡ sight.Directive directive word) where
  adds_here : (p : Part) → part_of directive ≡ Some p → AddsLine r.items (block_line r word p) (r.position + whole_line old.rest)
  adds_here p is =
      adds_one r.items (block_line r word p) (whole_line old.rest) _ s.here.lines
      (subst (λ (items : List Seen). AddsLines r.position (whole_line old.rest) items (block_line r word p ∷ [])) s.here.rest (line_adds s e (Some p) is))

  module _ {move : PlacedStep Token} {new : Source} where
    -- a skipped line that opens a block
    pub opened_unread : is_live_among old.dead_for_good old.blocks ≡ false → part_of directive ≡ Some part.Opens
        → Pauses (whole_line old.rest) directive_line (old.blocks ++ block_unread word ∷ []) old move new → PausesAt move new (after_line r)
    opened_unread dead its h =
        block_pauses s e r.truths (old.blocks ++ block_unread word ∷ []) its refl
        (unread_past r.items (block_line r word part.Opens) (r.position + whole_line old.rest) (adds_here part.Opens its) r.truths
        (dead_count old.dead_for_good) old.blocks s.here.blocks refl (before_unread r.position r.truths s.here.truths) (live_now old r s ∙ dead))
        (still_before s) h

    -- a line whose condition is read in live text, and opens a block
    pub opened_read : (holds : Bool) → is_live_among old.dead_for_good old.blocks ≡ true → part_of directive ≡ Some part.Opens
        → Pauses (whole_line old.rest) directive_line (old.blocks ++ block_opened word holds ∷ []) old move new → PausesAt move new (after_condition r holds)
    opened_read holds alive its h =
        block_pauses s e (with_truth r.position holds r.truths) (old.blocks ++ block_opened word holds ∷ []) its
        (text_before_truth r.items r.position holds r.truths r.position (omega arith))
        (read_past r.items (block_line r word part.Opens) (r.position + whole_line old.rest) (adds_here part.Opens its) r.truths
        (dead_count old.dead_for_good) old.blocks s.here.blocks holds refl (live_now old r s ∙ alive))
        (before_more r.position (r.position + whole_line old.rest) holds r.truths (omega arith) s.here.truths) h

    -- a line that closes the innermost block
    pub closed_last : (kept : OpenBlock) → last_block old.blocks ≡ Some kept → part_of directive ≡ Some part.Closes
        → Pauses (whole_line old.rest) directive_line (outer_blocks old.blocks) old move new → PausesAt move new (after_line r)
    closed_last kept found its h =
        block_pauses s e r.truths (outer_blocks old.blocks) its refl
        (closed_past r.items (block_line r word part.Closes) (r.position + whole_line old.rest) (adds_here part.Closes its) r.truths
        (dead_count old.dead_for_good) old.blocks s.here.blocks kept found refl) (still_before s) h

    -- an `#else` of the innermost block
    pub parted_last : (kept : OpenBlock) → last_block old.blocks ≡ Some kept → part_of directive ≡ Some part.Else
        → Pauses (whole_line old.rest) directive_line (outer_blocks old.blocks ++ block_parted kept ∷ []) old move new → PausesAt move new (after_line r)
    parted_last kept found its h =
        block_pauses s e r.truths (outer_blocks old.blocks ++ block_parted kept ∷ []) its refl
        (else_past r.items (block_line r word part.Else) (r.position + whole_line old.rest) (adds_here part.Else its) r.truths
        (dead_count old.dead_for_good) old.blocks s.here.blocks kept found refl (before_unread r.position r.truths s.here.truths)) (still_before s) h

    -- an `#elif` of the innermost block that is skipped
    pub skipped_last : (kept : OpenBlock) → last_block old.blocks ≡ Some kept → part_of directive ≡ Some part.Elif → kept.live_around && not kept.taken ≡ false
        → Pauses (whole_line old.rest) directive_line (outer_blocks old.blocks ++ block_skipped kept ∷ []) old move new → PausesAt move new (after_line r)
    skipped_last kept found its skips h =
        block_pauses s e r.truths (outer_blocks old.blocks ++ block_skipped kept ∷ []) its refl
        (skipped_past r.items (block_line r word part.Elif) (r.position + whole_line old.rest) (adds_here part.Elif its) r.truths
        (dead_count old.dead_for_good) old.blocks s.here.blocks kept found refl (before_unread r.position r.truths s.here.truths) skips) (still_before s) h

    -- an `#elif` of the innermost block whose condition is read
    pub decided_last : (kept : OpenBlock) → last_block old.blocks ≡ Some kept → part_of directive ≡ Some part.Elif → kept.live_around ≡ true
        → kept.taken ≡ false → (holds : Bool)
        → Pauses (whole_line old.rest) directive_line (outer_blocks old.blocks ++ block_decided kept holds ∷ []) old move new
        → PausesAt move new (after_condition r holds)
    decided_last kept found its around untaken holds h =
        block_pauses s e (with_truth r.position holds r.truths) (outer_blocks old.blocks ++ block_decided kept holds ∷ []) its
        (text_before_truth r.items r.position holds r.truths r.position (omega arith))
        (decided_past r.items (block_line r word part.Elif) (r.position + whole_line old.rest) (adds_here part.Elif its) r.truths
        (dead_count old.dead_for_good) old.blocks s.here.blocks kept found holds refl around untaken)
        (before_more r.position (r.position + whole_line old.rest) holds r.truths (omega arith) s.here.truths) h
