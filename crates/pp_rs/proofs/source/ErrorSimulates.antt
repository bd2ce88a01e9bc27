-- In dead text an error of the lexer that is passed, with the number sign of a directive before it, is a step of the reader.
use Rattle.pp_lexer.specs.Lexed.{Seen}
use Rattle.std.proofs.Common.{◌≡◌, ◌∙◌, ℕ, Bool, true, false, if◌then◌else◌, ◌||◌, ◌&&◌, not, List, ◌∷◌, ◌++◌, take, refl, ap, sym, subst}
use Rattle.pp_lexer.specs.declared.token.Token.{Token}
use Rattle.pp_model.specs.Places.{Fault}
use Rattle.pp_model.specs.Acts.{pause_at, advanced_by, perform}
use Rattle.pp_model.specs.Moves.{failing, passing, error_length}
use Rattle.pp_model.specs.Sights.{sight_of, is_directive}
use Rattle.pp_model.specs.SourceReader.{SourceReader, has_directive}
use Rattle.pp_model.specs.declared.sight.Sight.TheVariants as sight
use Rattle.pp_macros.specs.Item.{PlacedStep}
use Rattle.pp_macros.specs.inner.OpenBlocks.{is_live_among, unchanged}
use Rattle.pp_macros.specs.inner.Source.{Source, IsAfter, Makes}
use Rattle.pp_macros.specs.inner.SourceMoves.{unnoted}
use Rattle.pp_macros.proofs.work.QuietLemmas.{BeginsBare}
use Rattle.pp_directives.specs.inner.Lined.{AreLined}
use Rattle.pp_model.specs.declared.sight.Sight.{Sight}
use Rattle.pp_rs.proofs.source.FaultLengthLemmas.{CanFail}
use Rattle.pp_rs.specs.inner.Stands.{StandsReading}
use Rattle.pp_rs.proofs.source.DirectiveBeforeLemmas.{AddsDirective, item_adds_none}
use Rattle.pp_rs.proofs.source.ErrorFrontLemmas.{ErrorInFront, alone, after_hash, error_in_front}
use Rattle.pp_rs.proofs.source.Simulates.{SimulatesIn}
use Rattle.pp_rs.proofs.source.SkippedLemmas.{bare_quiet}
use Rattle.pp_rs.proofs.source.StandsAfterLemmas.{lined_here, ended_here}
use Rattle.pp_rs.proofs.source.StandsQuietLemmas.{stands_first, stands_two}
use Rattle.pp_rs.proofs.source.StepHereLemmas.{acts, fails_here, pauses_here}

-- a number sign and an error after it add no directive
error_adds : (fault : Fault) (rest : List Seen) (b : BeginsBare (sight.Fault fault) rest) → AreLined rest → AddsDirective 2 rest false
error_adds fault rest b lined after =
    let there : AreLined (b.hash ∷ b.name ∷ b.after) = subst AreLined b.front lined in
    ap (λ items. has_directive (take 2 items ++ after)) b.front ∙ ap (λ shown. is_directive shown || has_directive (b.name ∷ after)) (b.seen after)
    ∙ item_adds_none b.name after (there.0 b.goes_on)

module _ {old : Source} {r : SourceReader} (s : StandsReading old r) (move : PlacedStep Token) (new : Source)
    (dead : is_live_among old.dead_for_good old.blocks ≡ false) (fault : Fault) (e : sight_of old.rest ≡ sight.Fault fault) where
  passes_by : ErrorInFront fault old.rest → acts old r ≡ pause_at (advanced_by (error_length old.rest) r)
      → Makes unnoted unchanged (passing (error_length old.rest)) old move new → SimulatesIn move old r new
  passes_by (alone f one) does h =
      pauses_here s move new (does ∙ ap (λ (n : ℕ). pause_at (advanced_by n r)) one) (
        h.0,
        stands_first s dead f refl refl (subst (λ (n : ℕ). IsAfter n unnoted old.blocks old new) one h.1) h.2,
      )
  passes_by (after_hash b hash two) does h =
      pauses_here s move new (does ∙ ap (λ (n : ℕ). pause_at (advanced_by n r)) two) (
        h.0,
        stands_two s (λ alive. let bad : true ≡ false = sym alive ∙ dead in cc) e b.hash b.name b.after hash refl refl
            (error_adds fault old.rest b (lined_here old r s)) b.front
            (bare_quiet r.position b (λ position. refl) (lined_here old r s)) (subst (λ (n : ℕ). IsAfter n unnoted old.blocks old new) two h.1) h.2,
      )

  can : (passed : Bool) → old.rules.passes_dead_errors ≡ passed → passed ≡ false
      → CanFail old.rules (is_live_among old.dead_for_good old.blocks) (sight_of old.rest)
  can passed rule none =
      subst (λ (shown : Sight). CanFail old.rules (is_live_among old.dead_for_good old.blocks) shown) (sym e)
      (ap (λ live. not live && old.rules.passes_dead_errors) dead ∙ rule ∙ none)

  -- by the rules an error is passed or given
  pub error_simulates : (passed : Bool) → old.rules.passes_dead_errors ≡ passed
      → acts old r ≡ perform (if passed then passing (error_length old.rest) else failing fault) r
      → Makes unnoted unchanged (if passed then passing (error_length old.rest) else failing fault) old move new → SimulatesIn move old r new
  error_simulates true rule does h = passes_by (error_in_front fault old.rest e (ended_here old r s)) does h
  error_simulates false rule does h = fails_here s move new does (can false rule refl) h.0 h.1
