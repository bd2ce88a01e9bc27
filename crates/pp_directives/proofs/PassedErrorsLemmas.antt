-- Errors of the lexer that are passed, and those that are left then.
use Rattle.std.proofs.Common.{ℕ, ◌≡◌, Bool, true, false, List, [], ◌∷◌, ◌++◌, refl, sym, subst, Option, Some, None, Ok, Err}
use Rattle.pp_lexer.specs.declared.token.Location.{Location}
use Rattle.pp_macros.specs.Item.{Fault, PlacedStep}
use Rattle.pp_macros.specs.LexerErrors.{ErrorAt, AreLeft, none, kept, passed, PassesErrors}
use Rattle.pp_macros.specs.inner.Unreported.{Unreported, with_read, IsMet, IsMetOrPassed, ReportsNone, Reports, ExitReports, StepReports}
use Rattle.pp_macros.specs.Halting.{exit_of, placed_halt_of}
use Rattle.pp_macros.specs.declared.halt.Halt.{Halt}
use Rattle.pp_macros.specs.declared.halt.Halt.TheVariants as halt
use Rattle.pp_macros.specs.declared.step.PlacedExit.{PlacedExit}
use Rattle.pp_macros.specs.declared.step.PlacedExit.TheVariants.{Error, Continue, Finished}
use Rattle.pp_directives.proofs.UnreportedLemmas.{nothing_met, same_none}
use Rattle.pp_model.specs.Places.{unplaced}

-- none is passed
all_left : (errors : List ErrorAt) → AreLeft errors errors
all_left [] = none [] [] refl refl
all_left (e ∷ errors) = kept e (e ∷ errors) errors (e ∷ errors) errors refl refl (all_left errors)

pub passes_none : (passes : Bool) (before after : List ErrorAt) → after ≡ before → PassesErrors passes before after
passes_none false before after same = same
passes_none true before after same = subst (λ (errors : List ErrorAt). AreLeft before errors) (sym same) (all_left before)

-- the first are passed
pub front_passed : (front before after : List ErrorAt) → before ≡ front ++ after → AreLeft before after
front_passed [] before after is = subst (λ (errors : List ErrorAt). AreLeft errors after) (sym is) (all_left after)
front_passed (e ∷ front) before after is = passed e before (front ++ after) after is (front_passed front (front ++ after) after refl)

-- a fault is met, and no error is passed
pub met_or_passed : (passes : Bool) (fault : Fault) (old new : Unreported) → IsMet fault old new → IsMetOrPassed passes fault old new
met_or_passed passes fault old new met = λ none. passes_none passes _ _ (sym (met none))

-- where none is reported, some may be passed, and no fault is met among them
pub none_met : (passes : Bool) (fault : Fault) (old new : Unreported) → ReportsNone passes old new → IsMetOrPassed passes fault old new
none_met false fault old new same = met_or_passed false fault old new (nothing_met fault old new same)
none_met true fault old new nothing = λ unread.
    let after = nothing unread in
    let front = after.1 in
    rw after.0 (front_passed front.0 old.later new.later front.1)

-- an exit after which no error was read
pub exit_same : (passes : Bool) (exit : PlacedExit) (old new : Unreported) → new ≡ old → ExitReports passes exit old new
exit_same passes (Error fault) old new same = λ reported. met_or_passed passes (unplaced fault) old new (nothing_met (unplaced fault) old new same)
exit_same passes Continue old new same = same_none passes old new same
exit_same passes Finished old new same = same

pub step_same : {A : Type 0} (passes : Bool) (step : PlacedStep A) (old new : Unreported) → new ≡ old → StepReports passes step old new
step_same passes (Ok value) old new same = same_none passes old new same
step_same passes (Err exit) old new same = exit_same passes exit old new same

-- an exit for what reading met
pub halt_reported : (A : Type 0) (passes : Bool) (text : ℕ) (halt : Halt) (exit : PlacedExit) (old new : Unreported) → exit ≡ exit_of (placed_halt_of text halt)
    → Reports {A = A} false (Err halt) old new → ExitReports passes exit old new
halt_reported A passes text (halt.Fault fault) exit old new is met = rw is (λ reported. met_or_passed passes fault old new met)
halt_reported A passes text halt.OutOfMemory exit old new is met = rw is (λ reported. cc)

passed_after : (fault : Fault) (read : Option Location) (front before after : List ErrorAt) → before ≡ front ++ after
    → AreLeft (with_read fault read before) (with_read fault read after)
passed_after fault None front before after is = front_passed front before after is
passed_after fault (Some place) front before after is =
    let error : ErrorAt = record { item = fault; place = place } in
    kept error (error ∷ before) before (error ∷ after) after refl refl (front_passed front before after is)

-- a fault is met, and then the first of the errors that are left are passed
pub met_then_passed : (fault : Fault) (front : List ErrorAt) (old mid new : Unreported) → IsMet fault old mid → new.read ≡ mid.read
    → mid.later ≡ front ++ new.later → IsMetOrPassed true fault old new
met_then_passed fault front old mid new met read is = λ none.
    rw (met none, read) (passed_after fault mid.read front mid.later new.later is)
