-- What the plain program gives for a step: what the definitions say, or a stop.
use Rattle.std.specs.Prelude.{◌≡◌, ◌+◌, ◌≤◌, length, ℕ, Bool, List, Option, Result, Ok, Err, ⊤}
use Rattle.pp_lexer.specs.declared.token.Location.{Location}
use Rattle.pp_lexer.specs.declared.token.Token.{Token}
use Rattle.pp_model.specs.Places.{PlacedFault, in_text}
use Rattle.pp_model.specs.Calls.{Answers}
use Rattle.pp_model.specs.LineValues.{IsCondition, IsLineNumber}
use Rattle.pp_model.specs.SourceReader.{SourceReader}
use Rattle.pp_reference.specs.inner.ReaderState.{ReaderState}
use Rattle.pp_model.specs.Acts.{Acted}
use Rattle.pp_model.specs.Reads.{Evaluated}
use Rattle.pp_model.specs.inner.Acts.{fault_at, after_line, after_condition}
use Rattle.pp_model.specs.inner.Reads.{after_line_number}
use Rattle.pp_model.specs.declared.read.Taken.{Taken}
use Rattle.pp_model.specs.declared.step.Step.{Step}
use Rattle.pp_model.specs.declared.step.Step.TheVariants as step
use Rattle.pp_reference.specs.declared.stop.Halt.{Halt}
use Rattle.pp_reference.specs.declared.stop.Halt.TheVariants as halt
use Rattle.pp_model.specs.Numbering.{list_numbering}

-- the reader after a step; the program passes a line whose value is wanted once that is known
abbrev pub arrived : Step → SourceReader → SourceReader
arrived (step.Condition word tokens) reader = after_line reader
arrived (step.LineNumber word tokens) reader = after_line reader
arrived _ reader = reader

-- the step and the reader after it are those of the definitions, or so is the fault; nothing is asked of a stop
abbrev pub ActsAs : Result Step Halt → Acted → SourceReader → Type 0
ActsAs (Ok step) wanted after = wanted ≡ record { step = step; after = arrived step after }
ActsAs (Err (halt.Fault fault)) wanted after = wanted ≡ fault_at fault after
ActsAs (Err (halt.Stop stop)) wanted after = ⊤

-- if a step asks for the value of a line, the line's `#` and its word are at the position, as before the step
abbrev pub HasLine : Step → ReaderState → ReaderState → Type 0
HasLine (step.Condition word tokens) old new = (new ≡ old) × (new.position + 2 ≤ length new.items)
HasLine (step.LineNumber word tokens) old new = (new ≡ old) × (new.position + 2 ≤ length new.items)
HasLine _ old new = ⊤

abbrev pub HasLineIfOk : Result Step Halt → ReaderState → ReaderState → Type 0
HasLineIfOk (Ok step) old new = HasLine step old new
HasLineIfOk (Err h) old new = ⊤

-- what the line of a condition gives
pub record Deciding (A : Answers) (word : Location) (tokens : List Token) (r : SourceReader) (o : Option Taken)
    (t : SourceReader) : Type 0 where
  pub result : Result Bool PlacedFault
  pub is : IsCondition A (in_text r.text word) tokens (list_numbering r.rules r.line_offset) r.definitions result
  pub comes : Evaluated result (after_condition r) r o t

-- what a `#line` gives
pub record Renumbering (A : Answers) (word : Location) (tokens : List Token) (r : SourceReader) (o : Option Taken)
    (t : SourceReader) : Type 0 where
  pub result : Result ℕ PlacedFault
  pub is : IsLineNumber A (in_text r.text word) tokens (list_numbering r.rules r.line_offset) r.definitions result
  pub comes : Evaluated result (after_line_number r word) r o t
