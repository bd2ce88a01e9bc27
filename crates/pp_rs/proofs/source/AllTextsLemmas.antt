-- What a step reports of the errors of the lexer in its text it reports of those in all texts.
use Rattle.std.proofs.Common.{◌≡◌, ◌∙◌, Bool, true, false, List, [], ◌∷◌, ◌++◌, refl, ap, sym, subst, append_assoc, Option, Some, None}
use Rattle.std.specs.Prelude.{Ok, Err}
use Rattle.pp_lexer.specs.declared.token.Location.{Location}
use Rattle.pp_lexer.specs.declared.token.Token.{Token}
use Rattle.pp_model.specs.declared.read.Read.{Read}
use Rattle.pp_macros.specs.Item.{Fault, PlacedStep, wants_memory}
use Rattle.pp_macros.specs.LexerErrors.{ErrorAt, AreLeft, none, kept, passed, PassesErrors, errors_among}
use Rattle.pp_macros.specs.inner.Reader.{ReadsSource, reads, leaves}
use Rattle.pp_macros.specs.inner.Reading.{unpainted_step}
use Rattle.pp_macros.specs.inner.Source.{SuspendedText, Source, unreported_of, StepsSource}
use Rattle.pp_macros.specs.inner.Unreported.{Unreported, with_read, ReportsNone, ExitReports, StepReports}
use Rattle.pp_macros.specs.declared.step.PlacedExit.{PlacedExit}
use Rattle.pp_macros.specs.declared.step.PlacedExit.TheVariants.{Error, Continue, Finished}
use Rattle.pp_model.specs.Places.{unplaced}
use Rattle.pp_directives.proofs.PassedErrorsLemmas.{passes_none, step_same}
use Rattle.pp_rs.specs.inner.AllTexts.{errors_around, with_later, all_unreported}
use Rattle.pp_rs.proofs.source.RulesLemmas.{given_still}
use Rattle.pp_rs.proofs.source.UnpaintedLemmas.{unpainted_tells}

module _ (more : List ErrorAt) where
  left_after : (before after : List ErrorAt) → AreLeft before after → AreLeft (before ++ more) (after ++ more)
  left_after before after (none b a empty left) =
      passes_none true (before ++ more) (after ++ more) (ap (λ (l : List ErrorAt). l ++ more) (left ∙ sym empty))
  left_after before after (kept e b ones a others is are h) =
      kept e (before ++ more) (ones ++ more) (after ++ more) (others ++ more)
      (ap (λ (l : List ErrorAt). l ++ more) is) (ap (λ (l : List ErrorAt). l ++ more) are) (left_after ones others h)
  left_after before after (passed e b ones a is h) =
      passed e (before ++ more) (ones ++ more) (after ++ more) (ap (λ (l : List ErrorAt). l ++ more) is) (left_after ones after h)

  passes_after : (passes : Bool) (before after : List ErrorAt) → PassesErrors passes before after → PassesErrors passes (before ++ more) (after ++ more)
  passes_after false before after same = ap (λ (l : List ErrorAt). l ++ more) same
  passes_after true before after left = left_after before after left

  read_before : (fault : Fault) (read : Option Location) (later : List ErrorAt) → with_read fault read later ++ more ≡ with_read fault read (later ++ more)
  read_before fault None later = refl
  read_before fault (Some place) later = refl

  none_after : (passes : Bool) (old new : Unreported) → ReportsNone passes old new → ReportsNone passes (with_later more old) (with_later more new)
  none_after false old new same = ap (with_later more) same
  none_after true old new h = λ unread.
      let left = h unread in
      let front = left.1 in
      (left.0, (front.0, ap (λ (l : List ErrorAt). l ++ more) front.1 ∙ append_assoc front.0 new.later more))

  exit_after : (passes : Bool) (exit : PlacedExit) (old new : Unreported) → ExitReports passes exit old new
      → ExitReports passes exit (with_later more old) (with_later more new)
  exit_after passes Continue old new h = none_after passes old new h
  exit_after passes Finished old new h = ap (with_later more) h
  exit_after passes (Error fault) old new h = λ reported unread.
      subst (λ (left : List ErrorAt). PassesErrors passes (old.later ++ more) left) (read_before (unplaced fault) new.read new.later)
      (passes_after passes old.later (with_read (unplaced fault) new.read new.later) (h reported unread))

  -- with the same errors after those of both, a step reports what it reported
  pub step_after : {A : Type 0} (passes : Bool) (step : PlacedStep A) (old new : Unreported) → StepReports passes step old new
      → StepReports passes step (with_later more old) (with_later more new)
  step_after passes (Ok value) old new h = none_after passes old new h
  step_after passes (Err exit) old new h = exit_after passes exit old new h

-- over the same texts around
over_same : (passes : Bool) (step : PlacedStep Read) (old new : Source) → new.around ≡ old.around
    → StepReports passes step (unreported_of old) (unreported_of new) → StepReports passes step (all_unreported old) (all_unreported new)
over_same passes step old new same h =
    subst (λ (texts : List SuspendedText). StepReports passes step (all_unreported old) (with_later (errors_around texts) (unreported_of new))) (sym same)
    (step_after (errors_around old.around) passes step (unreported_of old) (unreported_of new) h)

-- once a text is over, the errors in those around are left
over_left : (old : Source) (outer : SuspendedText) (around : List SuspendedText) → old.rest ≡ [] → old.around ≡ outer ∷ around
    → record { read = old.error_place; later = errors_among outer.rest outer.places ++ errors_around around } ≡ all_unreported old
over_left old outer around over is = rw (over, is) refl

module _ (old new : Source) where
  text_tells : (step : PlacedStep Read) (given : PlacedStep Token) → StepsSource old given new
      → StepReports old.rules.passes_dead_errors given (unreported_of old) (unreported_of new) → step ≡ unpainted_step old.text given
      → wants_memory step ≡ false → StepReports old.rules.passes_dead_errors step (all_unreported old) (all_unreported new)
  text_tells step given steps reports is reported =
      over_same old.rules.passes_dead_errors step old new
      (given_still old new step given steps is reported).around
      (rw is (unpainted_tells old.text old.rules.passes_dead_errors given (unreported_of old) (unreported_of new) reports))

  -- a step reports over all texts what it reports in its own
  pub reads_tell : (step : PlacedStep Read) → ReadsSource old step new
      → StepReports old.rules.passes_dead_errors step (all_unreported old) (all_unreported new)
  reads_tell (Ok read) (reads given steps reports outermost is) = text_tells (Ok read) given steps reports is refl
  reads_tell (Err Continue) (reads given steps reports outermost is) = text_tells (Err Continue) given steps reports is refl
  reads_tell (Err Finished) (reads given steps reports outermost is) = text_tells (Err Finished) given steps reports is refl
  reads_tell (Err (Error fault)) (reads given steps reports outermost is) = λ reported. text_tells (Err (Error fault)) given steps reports is reported reported
  reads_tell step (leaves outer around over is pause after) =
      step_same old.rules.passes_dead_errors step (all_unreported old) (all_unreported new) (ap all_unreported after ∙ over_left old outer around over.rest is)
