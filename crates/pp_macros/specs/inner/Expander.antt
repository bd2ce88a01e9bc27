-- An expander over a reader: the open macros, and a step that was taken in the search for a `(` and is held
-- (docs/RULES.md, Expansion 5).
use Rattle.std.specs.Prelude.{◌≡◌, Bool, false, true, ℕ, ⊤, List, [], ◌∷◌, ◌++◌, Option, Some, None, Result, Ok, Err}
use Rattle.pp_lexer.specs.declared.token.Location.{Location}
use Rattle.pp_lexer.specs.declared.token.PreprocessorError.TheVariants.{IntegerOverflow, UnexpectedEndOfInput}
use Rattle.pp_model.specs.Places.{PlacedFault, place_of, unasked}
use Rattle.pp_model.specs.declared.place.Place.{Place}
use Rattle.pp_model.specs.declared.read.Read.{Read}
use Rattle.pp_model.specs.Calls.{Gathered, before, nesting, closes, within, too_many}
use Rattle.pp_model.specs.declared.read.Taken.{Taken as Given}
use Rattle.pp_model.specs.declared.read.Taken.TheVariants as given
use Rattle.pp_macros.specs.Held.{HoldsOrdinary}
use Rattle.pp_macros.specs.Item.{PlacedStep, is_out_of_memory}
use Rattle.pp_model.specs.declared.splice.CallPlace.{CallPlace}
use Rattle.pp_macros.specs.inner.Frames.{Frame, outermost_frame_call}
use Rattle.pp_macros.specs.inner.Reader.{Reader, nests}
use Rattle.pp_macros.specs.inner.Reading.{painted_step}
use Rattle.pp_macros.specs.inner.Turns.{Moves, taken_in, masks}
use Rattle.pp_macros.specs.declared.halt.PlacedHalt.{PlacedHalt}
use Rattle.pp_macros.specs.declared.halt.PlacedHalt.TheVariants as halt
use Rattle.pp_macros.specs.declared.step.PlacedExit.TheVariants.{Error, Continue, Finished}

pub record Expander : Type 0 where
  pub held : Option (PlacedStep Read)
  pub frames : List Frame

-- where the item of a turn was called from: if a step is held that turn gave a name, and this was the outermost call
-- before it
abbrev pub kept_call : Option (PlacedStep Read) → Option CallPlace → List Frame → Option CallPlace
kept_call None call frames = outermost_frame_call frames
kept_call (Some step) call frames = call

-- an outcome as a step
abbrev pub step_of_outcome : Given → PlacedStep Read
step_of_outcome (given.Token read) = Ok read
step_of_outcome (given.Fault fault) = Err (Error fault)
step_of_outcome given.End = Err Finished

-- the outcome of a step; a pause, which has none, counts as the end
abbrev pub outcome_of_step : PlacedStep Read → Given
outcome_of_step (Ok read) = given.Token read
outcome_of_step (Err (Error fault)) = given.Fault fault
outcome_of_step (Err Finished) = given.End
outcome_of_step (Err Continue) = given.End

-- what is held, unless it is the end
abbrev pub without_end : Option (PlacedStep Read) → Option (PlacedStep Read)
without_end (Some (Err Finished)) = None
without_end held = held

-- a step of the frames or the reader, once it is taken: `__LINE__` becomes a number
abbrev pub taken_as : PlacedStep Read → List Frame → Reader → PlacedStep Read
taken_as (Ok read) frames reader = step_of_outcome (taken_in frames reader read)
taken_as (Err exit) frames reader = Err exit

abbrev pub is_pause : {T : Type 0} → PlacedStep T → Bool
is_pause (Err Continue) = true
is_pause (Err Finished) = false
is_pause (Err (Error fault)) = false
is_pause (Ok value) = false

-- what comes first: what is held, or a step of the frames or the reader
pub data StepsFetching : Expander → Reader → PlacedStep Read → Expander → Reader → Type 0 where
  held : (step : PlacedStep Read) (m n : Expander) (r s : Reader)
      → m.held ≡ Some step
      → n ≡ record m { held = None }
      → s ≡ r
      → StepsFetching m r step n s
  moved : (move step : PlacedStep Read) (m n : Expander) (r s : Reader)
      → m.held ≡ None
      → Moves m.frames r move n.frames s
      → step ≡ taken_as move n.frames s
      → n.held ≡ None
      → StepsFetching m r step n s

-- one step of taking: an identifier whose name is open, here or around, is painted
pub record StepsTaking (m : Expander) (r : Reader) (step : PlacedStep Read) (n : Expander) (s : Reader) : Type 0 where
  pub first : PlacedStep Read
  pub fetches : StepsFetching m r first n s
  pub paints : step ≡ painted_step (masks n.frames s) first

-- what is taken next: the first step that is no pause
pub data TakesNext : Expander → Reader → PlacedStep Read → Expander → Reader → Type 0 where
  now : (step : PlacedStep Read) (m n : Expander) (r s : Reader)
      → StepsTaking m r step n s
      → is_pause step ≡ false
      → TakesNext m r step n s
  later : (step : PlacedStep Read) (m n p : Expander) (r s t : Reader)
      → StepsTaking m r (Err Continue) n s
      → TakesNext n s step p t
      → TakesNext m r step p t

-- the next token was taken and put after the tokens
pub record IsTakenOnto (m : Expander) (r : Reader) (tokens : List Read)
    (n : Expander) (s : Reader) (more : List Read) : Type 0 where
  pub read : Read
  pub takes : TakesNext m r (Ok read) n s
  pub holds : HoldsOrdinary read.token.value
  pub is : more ≡ tokens ++ read ∷ []

-- it was, or there was none; of a refusal of memory this says nothing
abbrev pub TakesOnto : Expander → Reader → List Read → PlacedStep (Unit {0}) → Expander → Reader → List Read → Type 0
TakesOnto m r tokens (Ok done) n s more = IsTakenOnto m r tokens n s more
TakesOnto m r tokens (Err (Error fault)) n s more =
    is_out_of_memory fault.0 ≡ false → TakesNext m r (Err (Error fault)) n s
TakesOnto m r tokens (Err exit) n s more = TakesNext m r (Err exit) n s

-- what is taken next from the second on is taken next from the first on
abbrev pub LeadsToNext : Expander → Reader → Expander → Reader → Type 0
LeadsToNext m r n s =
    (step : PlacedStep Read) (p : Expander) (t : Reader) → TakesNext n s step p t → TakesNext m r step p t

-- the next token was taken so, if it was found; else pauses were passed, if any
abbrev pub PutsIfFound : Expander → Reader → List Read → Bool → Expander → List Read → Type 0
PutsIfFound m r tokens true n more = IsTakenOnto m r tokens n r more
PutsIfFound m r tokens false n more = LeadsToNext m r n r × (more ≡ tokens)

-- tokens that are no parentheses were taken so, one after the other, while the expander stayed as it is
pub data TakesFlat (m : Expander) (r : Reader) (tokens : List Read) : Reader → List Read → Type 0 where
  none_taken : (s : Reader) (more : List Read) → s ≡ r → more ≡ tokens → TakesFlat m r tokens s more
  taken_more : (s t : Reader) (some more : List Read)
      → TakesFlat m r tokens s some
      → (onto : IsTakenOnto m s some m t more)
      → nests onto.read.token.value ≡ false
      → TakesFlat m r tokens t more

-- one more token was taken so, if it was found; else nothing changed
abbrev pub TakesIfFound : Expander → Reader → List Read → Bool → Reader → List Read → Type 0
TakesIfFound m r tokens true s more = IsTakenOnto m r tokens m s more
TakesIfFound m r tokens false s more = (s ≡ r) × (more ≡ tokens)

-- such tokens were, and then a token if one was found
pub record TakesUpTo (m : Expander) (r : Reader) (tokens : List Read) (found : Bool) (s : Reader) (more : List Read)
    : Type 0 where
  pub between : Reader
  pub some : List Read
  pub flat : TakesFlat m r tokens between some
  pub last : TakesIfFound m between some found s more

-- such tokens were, and then one more token, or there was none
pub record TakesRun (m : Expander) (r : Reader) (tokens : List Read) (step : PlacedStep (Unit {0}))
    (n : Expander) (s : Reader) (more : List Read) : Type 0 where
  pub between : Reader
  pub some : List Read
  pub flat : TakesFlat m r tokens between some
  pub last : TakesOnto m between some step n s more
  pub kept : step ≡ Err Finished → more ≡ some

-- the place of the last of the tokens or, if there is none, that of the `(` before them
abbrev pub place_after : Place → List Read → Place
place_after paren [] = paren
place_after paren (read ∷ tokens) = place_after (place_of read) tokens

-- the tokens that are taken up to the matching `)`, or the fault that is met before it
pub data GathersNext : ℕ → Place → Expander → Reader → Result Gathered PlacedFault → Expander → Reader → Type 0 where
  closed : (k : ℕ) (last : Place) (read : Read) (m n : Expander) (r s : Reader) (g : Result Gathered PlacedFault)
      → TakesNext m r (Ok read) n s → nesting k read.token.value ≡ closes
      → g ≡ Ok (record { tokens = []; closing = read.token.location })
      → GathersNext k last m r g n s
  inside : (k l : ℕ) (last : Place) (read : Read) (m n p : Expander) (r s t : Reader)
      (rest g : Result Gathered PlacedFault)
      → TakesNext m r (Ok read) n s → nesting k read.token.value ≡ within l
      → GathersNext l (place_of read) n s rest p t
      → g ≡ before read rest
      → GathersNext k last m r g p t
  overfull : (k : ℕ) (last : Place) (read : Read) (m n : Expander) (r s : Reader) (g : Result Gathered PlacedFault)
      → TakesNext m r (Ok read) n s → nesting k read.token.value ≡ too_many
      → g ≡ Err (IntegerOverflow, place_of read)
      → GathersNext k last m r g n s
  ended : (k : ℕ) (last : Place) (m n : Expander) (r s : Reader) (g : Result Gathered PlacedFault)
      → TakesNext m r (Err Finished) n s
      → g ≡ Err (UnexpectedEndOfInput, last)
      → GathersNext k last m r g n s
  failed : (k : ℕ) (last : Place) (fault : PlacedFault) (m n : Expander) (r s : Reader)
      (g : Result Gathered PlacedFault)
      → TakesNext m r (Err (Error fault)) n s
      → is_out_of_memory fault.0 ≡ false
      → g ≡ Err (unasked fault)
      → GathersNext k last m r g n s

-- what a search gives satisfies the predicate, unless memory runs out
abbrev pub Satisfies : {A : Type 0} → Result A PlacedHalt → (Result A PlacedFault → Type 0) → Type 0
Satisfies (Ok value) P = P (Ok value)
Satisfies (Err (halt.Fault fault)) P = P (Err fault)
Satisfies (Err halt.OutOfMemory) P = ⊤

-- the tokens of a call with the place of its `)`, or the fault
abbrev pub gathered_to : List Read → Result Location PlacedFault → Result Gathered PlacedFault
gathered_to tokens (Ok closing) = Ok (record { tokens = tokens; closing = closing })
gathered_to tokens (Err fault) = Err fault
