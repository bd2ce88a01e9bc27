-- After the line of a directive the source stands for its reader, no matter which blocks are then open.
use Rattle.std.proofs.Common.{◌≡◌, ◌+◌, ◌≤◌, List, [], ◌∷◌, length, drop, refl, ap, sym, subst, Option, Some, None, arith}
use Rattle.std.specs.List.{cons_option}
use Rattle.pp_lexer.specs.Lexed.{Seen}
use Rattle.pp_lexer.specs.declared.token.Location.{Location}
use Rattle.pp_lexer.specs.declared.token.Token.{Token}
use Rattle.pp_model.specs.Definitions.{Definitions}
use Rattle.pp_model.specs.Lines.{line_length}
use Rattle.pp_model.specs.Sights.{sight_of}
use Rattle.pp_model.specs.Blocks.{part_of, Truths, blocks_at}
use Rattle.pp_model.specs.inner.Blocks.{line_with}
use Rattle.pp_model.specs.SourceReader.{SourceReader, has_live_text_before}
use Rattle.pp_model.specs.inner.Acts.{after_line}
use Rattle.pp_model.specs.declared.block.BlockLine.{BlockLine}
use Rattle.pp_model.specs.declared.block.Part.{Part}
use Rattle.pp_model.specs.declared.directive.Directive.{Directive}
use Rattle.pp_model.specs.declared.sight.Sight.TheVariants as sight
use Rattle.pp_macros.specs.Item.{PlacedStep}
use Rattle.pp_macros.specs.inner.Defined.{meaning_of}
use Rattle.pp_macros.specs.inner.OpenBlocks.{AreBefore}
use Rattle.pp_macros.specs.declared.blocks.OpenBlock.{OpenBlock}
use Rattle.pp_macros.specs.inner.SourceMoves.{directive_line}
use Rattle.pp_macros.specs.inner.Source.{Source, IsAfter, Pauses}
use Rattle.pp_rs.specs.inner.StandsPast.{dead_count, StandPast}
use Rattle.pp_rs.specs.inner.Stands.{StandsReading}
use Rattle.pp_macros.proofs.work.BodyLemmas.{line_length_least}
use Rattle.pp_macros.proofs.work.DirectiveLineLemmas.{begins_directive}
use Rattle.pp_rs.proofs.blocks.LinesBeforeLemmas.{AddsLines, directive_adds}
use Rattle.pp_rs.proofs.blocks.RememberedLemmas.{IsRemembered, line_remembered}
use Rattle.pp_rs.proofs.source.SkippedLemmas.{quiet_after_word}
use Rattle.pp_rs.proofs.source.StandsAfterLemmas.{lined_here, after_here, remembered_here, stands_further}
use Rattle.pp_rs.proofs.source.LinePlaces.{whole_line, PausesAt}
use Rattle.pp_rs.proofs.source.StandsQuietLemmas.{same_meaning, stands_quiet}

-- the line of a block whose number sign stands at a reader's position
abbrev pub block_line : SourceReader → Location → Part → BlockLine
block_line r word p = record { position = r.position; word = word; part = p }

line_there : (rest : List Seen) (directive : Directive) (word : Location) → sight_of rest ≡ sight.Directive directive word → whole_line rest ≤ length rest
line_there rest directive word e =
    let b = begins_directive rest directive word e in
    let after : length (drop 2 rest) ≡ length b.after = ap (λ items. length (drop 2 items)) b.front in
    let whole : length rest ≡ length (b.hash ∷ b.name ∷ b.after) = ap length b.front in
    omega (arith, line_length_least (drop 2 rest), after, whole)

after_line_is : {old new : Source} {r : SourceReader} (s : StandsReading old r) (definitions : Definitions) (truths : Truths)
    → StandsReading new (record r { position = r.position + whole_line old.rest; definitions = definitions; truths = truths })
    → StandsReading new (record (after_line r) { definitions = definitions; truths = truths })
after_line_is {old} {new} {r} s definitions truths =
    subst (λ (items : List Seen). StandsReading new (record r
    { position = r.position + (2 + line_length items); definitions = definitions; truths = truths })) (sym (after_here old r s))

module _ {old : Source} {r : SourceReader} (s : StandsReading old r)
    {directive : Directive} {word : Location} (e : sight_of old.rest ≡ sight.Directive directive word) where
  -- a directive's line adds the line of a block that its word says, if any
  pub line_adds : (found : Option Part) → part_of directive ≡ found
      → AddsLines r.position (whole_line old.rest) old.rest (cons_option (line_with r.position word found) [])
  line_adds found is =
      subst (λ (part_found : Option Part). AddsLines r.position (whole_line old.rest) old.rest (cons_option (line_with r.position word part_found) [])) is
      (directive_adds r.position old.rest directive word e (λ position after. quiet_after_word position old.rest after directive word e (lined_here old r s)))

  module _ {new : Source} where
    remembers_line : (truths : Truths) (blocks : List OpenBlock)
        → has_live_text_before r.items truths r.position ≡ has_live_text_before r.items r.truths r.position
        → IsAfter (whole_line old.rest) directive_line blocks old new → IsRemembered new r.items truths (r.position + whole_line old.rest)
    remembers_line truths blocks same b = line_remembered old new r.items r.truths r.position s.here.rest
        (remembered_here old r s) directive word e truths same blocks b

    -- after a line that is none of a block
    pub stands_line : (definitions : Definitions) → part_of directive ≡ None → IsAfter (whole_line old.rest) directive_line old.blocks old new
        → definitions ≡ meaning_of new.definitions → StandsReading new (record (after_line r) { definitions = definitions })
    stands_line definitions its b means =
        after_line_is s definitions r.truths (stands_quiet s (whole_line old.rest) definitions (line_there old.rest directive word e) b means
        (line_adds None its)
        (remembers_line r.truths old.blocks refl b))

    -- the same where no definition changes
    pub line_stays : part_of directive ≡ None → IsAfter (whole_line old.rest) directive_line old.blocks old new
        → new.definitions ≡ old.definitions → StandsReading new (after_line r)
    line_stays its b same = stands_line r.definitions its b (same_meaning s new same)

    -- a pause after a line of a block, where these conditions were read and these blocks are then open
    pub block_pauses : {p : Part} {move : PlacedStep Token} (truths : Truths) (blocks : List OpenBlock) → part_of directive ≡ Some p
        → has_live_text_before r.items truths r.position ≡ has_live_text_before r.items r.truths r.position
        → StandPast (dead_count old.dead_for_good) r.items truths blocks (blocks_at r.items (r.position + whole_line old.rest)) → AreBefore (r.position + whole_line old.rest) truths
        → Pauses (whole_line old.rest) directive_line blocks old move new → PausesAt move new (record (after_line r) { truths = truths })
    block_pauses {p} truths blocks is text stand before h = (
      h.0,
      after_line_is s r.definitions truths (stands_further old r s (whole_line old.rest) r.definitions truths (block_line r word p ∷ []) new
          (line_there old.rest directive word e) h.1 (same_meaning s new h.2) (line_adds (Some p) is) stand before
          (remembers_line truths blocks text h.1)),
    )
