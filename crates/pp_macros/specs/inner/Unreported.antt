-- The errors of the lexer that were not reported yet.
use Rattle.std.specs.Prelude.{◌≡◌, Bool, true, false, List, ◌∷◌, ◌++◌, Option, Some, None, Result, Ok, Err, ⊤}
use Rattle.pp_lexer.specs.Lexed.{Seen}
use Rattle.pp_lexer.specs.declared.token.Location.{Location}
use Rattle.pp_model.specs.Places.{unplaced}
use Rattle.pp_macros.specs.Item.{Fault, PlacedStep, is_out_of_memory}
use Rattle.pp_macros.specs.LexerErrors.{ErrorAt, errors_among, PassesErrors}
use Rattle.pp_macros.specs.declared.halt.Halt.{Halt}
use Rattle.pp_macros.specs.declared.halt.Halt.TheVariants as halt
use Rattle.pp_macros.specs.declared.step.PlacedExit.{PlacedExit}
use Rattle.pp_macros.specs.declared.step.PlacedExit.TheVariants.{Error, Continue, Finished}

-- the place of the error that was read and not reported, if there is one, and the errors that are still to be read
pub record Unreported : Type 0 where
  pub read : Option Location
  pub later : List ErrorAt

abbrev pub unreported : List Seen → List Location → Option Location → Unreported
unreported rest places read = record { read = read; later = errors_among rest places }

-- the errors still to be read; before them the fault with its place, if it is an error of the lexer that was read
abbrev pub with_read : Fault → Option Location → List ErrorAt → List ErrorAt
with_read fault None later = later
with_read fault (Some place) later = record { item = fault; place = place } ∷ later

-- Reading meets a fault. If no error was read and unreported before, the fault is the first error that was still to be
-- read, or none of these was read.
abbrev pub IsMet : Fault → Unreported → Unreported → Type 0
IsMet fault old new = old.read ≡ None → old.later ≡ with_read fault new.read new.later

-- The same where errors may be passed: some of those before may be gone, and then of those after the fault too.
abbrev pub IsMetOrPassed : Bool → Fault → Unreported → Unreported → Type 0
IsMetOrPassed passes fault old new =
    old.read ≡ None → PassesErrors passes old.later (with_read fault new.read new.later)

-- Nothing is reported. No error is read or, if errors of dead text are passed, the first of those to be read may be. If
-- an error was read and unreported before, this says nothing then.
abbrev pub ReportsNone : Bool → Unreported → Unreported → Type 0
ReportsNone false old new = new ≡ old
ReportsNone true old new =
    old.read ≡ None → (new.read ≡ None) × ((passed : List ErrorAt) × (old.later ≡ passed ++ new.later))

-- A value reports none. If memory runs out, this says nothing.
abbrev pub Reports : {A : Type 0} → Bool → Result A Halt → Unreported → Unreported → Type 0
Reports passes (Ok value) old new = ReportsNone passes old new
Reports passes (Err (halt.Fault fault)) old new = IsMet fault old new
Reports passes (Err halt.OutOfMemory) old new = ⊤

-- The same of a step that gives nothing: a pause or the end reports none, and if memory runs out, this says nothing.
-- The end reads no error. With a fault errors may be passed: what is left of its line may be skipped.
abbrev pub ExitReports : Bool → PlacedExit → Unreported → Unreported → Type 0
ExitReports passes Continue old new = ReportsNone passes old new
ExitReports passes Finished old new = new ≡ old
ExitReports passes (Error fault) old new =
    is_out_of_memory fault.0 ≡ false → IsMetOrPassed passes (unplaced fault) old new

abbrev pub StepReports : {A : Type 0} → Bool → PlacedStep A → Unreported → Unreported → Type 0
StepReports passes (Ok value) old new = ReportsNone passes old new
StepReports passes (Err exit) old new = ExitReports passes exit old new

-- the errors that are still to be reported if this is held: a fault that is held may be an error that was read
abbrev pub unreported_with : {T : Type 0} → Option (PlacedStep T) → Unreported → List ErrorAt
unreported_with (Some (Err (Error fault))) u = with_read (unplaced fault) u.read u.later
unreported_with _ u = u.later

-- an error that was read and not reported is held: if no fault is held, there is none
abbrev pub IsReportedBut : {T : Type 0} → Option (PlacedStep T) → Unreported → Type 0
IsReportedBut (Some (Err (Error fault))) u = ⊤
IsReportedBut _ u = u.read ≡ None
