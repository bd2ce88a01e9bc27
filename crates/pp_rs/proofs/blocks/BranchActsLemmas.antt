-- Each step of a source keeps what is known of the blocks that its reader has met.
use Rattle.std.proofs.Common.{◌≡◌, ◌∙◌, Bool, true, false, if◌then◌else◌, List, [], ◌∷◌, refl, ap, Option, Some, None}
use Rattle.pp_lexer.specs.declared.token.Location.{Location}
use Rattle.pp_model.specs.declared.read.Taken.{Taken}
use Rattle.pp_model.specs.Calls.{Answers}
use Rattle.pp_model.specs.Sights.{sight_of}
use Rattle.pp_model.specs.Blocks.{part_of, Block, is_live}
use Rattle.pp_model.specs.SourceReader.{Suspended, SourceReader}
use Rattle.pp_model.specs.Moves.{BlockFacts, failing, passing, directive_move, error_length, move_at}
use Rattle.pp_model.specs.Acts.{Acted, leave, end_by, perform, facts_of, facts_here, act}
use Rattle.pp_model.specs.inner.Acts.{items_left, after_word, after_line, after_condition, block_here, perform_line}
use Rattle.pp_model.specs.Reads.{Steps}
use Rattle.pp_model.specs.declared.block.Part.TheVariants as part
use Rattle.pp_model.specs.declared.directive.Directive.{Directive}
use Rattle.pp_model.specs.declared.sight.Sight.{Sight}
use Rattle.pp_model.specs.declared.sight.Sight.TheVariants as sight
use Rattle.pp_model.proofs.source.MovesLemmas.{skips, Passes, plain, unread, parting, skipping, closing, Decides, opening, choosing, directive_holds}
use Rattle.pp_model.proofs.source.ReadsLemmas.{HoldsAfter, holds_after}
use Rattle.pp_rs.proofs.blocks.BlockStackLemmas.{mapped_some}
use Rattle.pp_rs.proofs.blocks.KnownAfterLemmas.{HasRead, HasReadAround, one_keeps, error_keeps, bare_keeps, unknown_keeps, line_keeps, opening_keeps, unread_keeps, closing_keeps, parting_keeps, skipping_keeps, choosing_keeps}

-- it is known of the text that is read, and of those around
abbrev pub HasReadAll : SourceReader → Type 0
HasReadAll r = HasRead r × HasReadAround r.around

-- it is known after each step of this act
abbrev Keeps : SourceReader → Acted → Type 0
Keeps r a = HoldsAfter HasReadAll r a.step a.after

module _ (r : SourceReader) (b : HasRead r) (w : HasReadAround r.around) where
  leave_keeps : (around : List Suspended) → HasReadAround around → Keeps r (leave around r)
  leave_keeps [] others = (b, w)
  leave_keeps (outer ∷ around) others = others

  end_keeps : (block : Option Block) → Keeps r (end_by block r)
  end_keeps (Some block) = (b, w)
  end_keeps None = leave_keeps r.around w

  module _ (directive : Directive) (word : Location) (e : sight_of (items_left r) ≡ sight.Directive directive word) where
    part_keeps : part_of directive ≡ Some part.Else → (found : BlockFacts) → facts_here r ≡ Some found → found.has_else ≡ false → HasRead (after_line r)
    part_keeps its found is none =
        let (block, here, facts) = mapped_some (facts_of r) (block_here r) found is in
        parting_keeps r b directive word e block here its (ap (λ f. f.has_else) facts ∙ none)

    skip_keeps : part_of directive ≡ Some part.Elif → (found : BlockFacts) → facts_here r ≡ Some found → found.has_else ≡ false → skips found ≡ true
        → HasRead (after_line r)
    skip_keeps its found is none skipped =
        let (block, here, facts) = mapped_some (facts_of r) (block_here r) found is in
        skipping_keeps r b directive word e block here its (ap (λ f. f.has_else) facts ∙ none) (ap skips facts ∙ skipped)

    choose_keeps : part_of directive ≡ Some part.Elif → (found : BlockFacts) → facts_here r ≡ Some found → found.has_else ≡ false → skips found ≡ false
        → (holds : Bool) → HasRead (after_condition r holds)
    choose_keeps its found is none reads holds =
        let (block, here, facts) = mapped_some (facts_of r) (block_here r) found is in
        choosing_keeps r b directive word e block here its (ap (λ f. f.has_else) facts ∙ none) (ap skips facts ∙ reads) holds

    close_keeps : part_of directive ≡ Some part.Closes → (found : BlockFacts) → facts_here r ≡ Some found → HasRead (after_line r)
    close_keeps its found is =
        let (block, here, facts) = mapped_some (facts_of r) (block_here r) found is in
        closing_keeps r b directive word e block here its

    passing_keeps : (live : Bool) → is_live r.items r.truths r.position ≡ live → Passes live (facts_here r) directive → HasRead (after_line r)
    passing_keeps live alive (plain its) = line_keeps r b directive word e its
    passing_keeps live alive (unread now its) = unread_keeps r b directive word e its (alive ∙ now)
    passing_keeps live alive (parting its found is none) = part_keeps its found is none
    passing_keeps live alive (skipping its found is none skipped) = skip_keeps its found is none skipped
    passing_keeps live alive (closing its found is) = close_keeps its found is

    deciding_keeps : (live : Bool) → is_live r.items r.truths r.position ≡ live → Decides live (facts_here r) directive → (holds : Bool)
        → HasRead (after_condition r holds)
    deciding_keeps live alive (opening now its) = opening_keeps r b directive word e its (alive ∙ now)
    deciding_keeps live alive (choosing its found is none reads) = choose_keeps its found is none reads

    directive_keeps : (live : Bool) → is_live r.items r.truths r.position ≡ live
        → Keeps r (perform_line (directive_move r.rules live (facts_here r) directive word (after_word r)) r)
    directive_keeps live alive =
        directive_holds (λ move. Keeps r (perform_line move r)) r.rules (facts_here r) word (after_word r) live directive (record {
          failing = λ fault. (b, w);
          refusing = λ fault. (b, w);
          unknown = λ now its. (unknown_keeps r b directive word e its, w);
          passing = λ why. (passing_keeps live alive why, w);
          items = λ now its value is. (line_keeps r b directive word e its, w);
          asking = λ now its. (line_keeps r b directive word e (ap part_of its), w);
          defining = λ now its named is. ((line_keeps r b directive word e its, w), (line_keeps r b directive word e its, w));
          undefining = λ now its name. (line_keeps r b directive word e its, w);
          numbering = λ now its tokens. ((b, w), λ n. (line_keeps r b directive word e its, w));
          testing = λ now its asked name. (opening_keeps r b directive word e its (alive ∙ now) _, w);
          deciding = λ why tokens. ((b, w), λ holds. (deciding_keeps live alive why holds, w));
        })

  sight_keeps : (live : Bool) (shown : Sight) → is_live r.items r.truths r.position ≡ live → sight_of (items_left r) ≡ shown
      → Keeps r (perform (move_at r.rules live (facts_here r) shown (items_left r)) r)
  sight_keeps live sight.End alive e = end_keeps _
  sight_keeps live sight.NewLine alive e = (one_keeps r b sight.NewLine e refl, w)
  sight_keeps true (sight.Fault fault) alive e = (b, w)
  sight_keeps false (sight.Fault fault) alive e = go r.rules.passes_dead_errors
    where
      go : (passed : Bool) → Keeps r (perform (if passed then passing (error_length (items_left r)) else failing fault) r)
      go true = (error_keeps r b fault e, w)
      go false = (b, w)
  sight_keeps true (sight.Token token) alive e = (one_keeps r b (sight.Token token) e refl, w)
  sight_keeps false (sight.Token token) alive e = (one_keeps r b (sight.Token token) e refl, w)
  sight_keeps true (sight.Hash location) alive e = (b, w)
  sight_keeps false (sight.Hash location) alive e = (one_keeps r b (sight.Hash location) e refl, w)
  sight_keeps live sight.Lone alive e = (bare_keeps r b sight.Lone refl (λ position. refl) e, w)
  sight_keeps true (sight.NoWord fault) alive e = (b, w)
  sight_keeps false (sight.NoWord fault) alive e = (bare_keeps r b (sight.NoWord fault) refl (λ position. refl) e, w)
  sight_keeps live (sight.Directive directive word) alive e = directive_keeps directive word e live alive

  -- whatever stands there
  act_keeps : Keeps r (act r)
  act_keeps = sight_keeps (is_live r.items r.truths r.position) (sight_of (items_left r)) refl refl

module _ (A : Answers) where
  -- so each step keeps it
  pub step_keeps_branches : (o : Option Taken) (r t : SourceReader) → Steps A r o t → HasReadAll r → HasReadAll t
  step_keeps_branches o r t s h = holds_after A r o t HasReadAll (act r).step (act r).after (act_keeps r h.0 h.1) s
