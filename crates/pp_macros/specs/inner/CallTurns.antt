-- One step of an expander with calls: a token is taken; it is given, opens its macro, or begins a call whose tokens are
-- gathered (docs/RULES.md, Expansion 1 to 7 and 10).
use Rattle.std.specs.Prelude.{◌≡◌, ◌⊎◌, if◌then◌else◌, Bool, false, true, [], ◌∷◌, Option, Some, None, Result, Ok, Err}
use Rattle.std.specs.Prelude.{⊤}
use Rattle.pp_model.specs.declared.place.Place.{Place}
use Rattle.pp_model.specs.Places.{PlacedFault, place_of}
use Rattle.pp_model.specs.declared.read.Read.{Read}
use Rattle.pp_model.specs.Calls.{Gathered, is_left_paren}
use Rattle.pp_model.specs.Emitting.{called_at}
use Rattle.pp_macros.specs.Item.{PlacedStep, is_out_of_memory, no_memory}
use Rattle.pp_macros.specs.inner.Defined.{Macro}
use Rattle.pp_macros.specs.inner.Frames.{new_frame, bare_call}
use Rattle.pp_macros.specs.Held.{HoldsOrdinary}
use Rattle.pp_macros.specs.inner.Expander.{Expander, StepsTaking, TakesNext, GathersNext}
use Rattle.pp_macros.specs.inner.Reader.{Reader}
use Rattle.pp_macros.specs.inner.Turns.{macro_of, Opens}
use Rattle.pp_macros.specs.inner.Work.{is_end}
use Rattle.pp_macros.specs.declared.calls.Taken.{Taken}
use Rattle.pp_macros.specs.declared.calls.Taken.TheVariants as taken
use Rattle.pp_macros.specs.declared.step.PlacedExit.{PlacedExit}
use Rattle.pp_macros.specs.declared.step.PlacedExit.TheVariants.{Error, Continue}

-- the place of the `(` that a step gives, if it gives one
abbrev pub paren_of : PlacedStep Read → Option Place
paren_of (Ok read) = if is_left_paren read.token.value then Some (place_of read) else None
paren_of (Err exit) = None

-- a step whose error says that memory ran out
abbrev pub is_out_of_memory_step : PlacedStep Read → Bool
is_out_of_memory_step (Err (Error fault)) = is_out_of_memory fault.0
is_out_of_memory_step _ = false

-- what follows the name of a function-like macro: no call, a call with a fault, or a call whose tokens are gathered
pub data Sought : Type 0 where
  no_call : PlacedStep Read → Sought
  refused : PlacedFault → Sought
  gathered : Place → Gathered → Sought

abbrev pub sought_by : Place → Result Gathered PlacedFault → Sought
sought_by paren (Ok g) = gathered paren g
sought_by paren (Err fault) = refused fault

pub data Seeks : Expander → Reader → Sought → Expander → Reader → Type 0 where
  alone : (next : PlacedStep Read) (m n : Expander) (r s : Reader) (c : Sought)
      → TakesNext m r next n s
      → paren_of next ≡ None
      → is_out_of_memory_step next ≡ false
      → c ≡ no_call next
      → Seeks m r c n s
  called : (next : PlacedStep Read) (paren : Place) (m n p : Expander) (r s t : Reader)
      (g : Result Gathered PlacedFault) (c : Sought)
      → TakesNext m r next n s
      → paren_of next ≡ Some paren
      → GathersNext 0 paren n s g p t
      → c ≡ sought_by paren g
      → Seeks m r c p t

-- what is done with what follows a name: without a call the name is given and what follows it is held
abbrev pub Finds : Read → Macro → Sought → PlacedStep Taken → Expander → Expander → Type 0
Finds read opened (no_call next) step n p = (step ≡ Ok (taken.Token read)) × (p ≡ record n { held = Some next })
Finds read opened (refused fault) step n p = (step ≡ Err (Error fault)) × (p ≡ n)
Finds read opened (gathered paren g) step n p =
    (step ≡ Ok (taken.Call (record {
      opened = opened;
      call = called_at read.text read.token g.closing.line;
      paren = paren;
      tokens = g.tokens;
    })))
    × (p ≡ n)

pub data TurnsTo : Expander → Reader → PlacedStep Taken → Expander → Reader → Type 0 where
  -- a pause, a fault or the end
  passes : (exit : PlacedExit) (step : PlacedStep Taken) (m n : Expander) (r s : Reader)
      → StepsTaking m r (Err exit) n s
      → step ≡ Err exit
      → TurnsTo m r step n s
  -- a token that opens no macro
  gives : (read : Read) (step : PlacedStep Taken) (m n : Expander) (r s : Reader)
      → StepsTaking m r (Ok read) n s → macro_of s read ≡ None
      → step ≡ Ok (taken.Token read)
      → TurnsTo m r step n s
  -- the name of an object-like macro
  object : (read : Read) (opened : Macro) (step : PlacedStep Taken) (m n p : Expander) (r s : Reader)
      → StepsTaking m r (Ok read) n s → Opens s read opened
      → opened.definition.function_like ≡ false
      → step ≡ Err Continue
      → p ≡ record n { frames = new_frame opened (bare_call read.text read.token.location) [] ∷ n.frames }
      → TurnsTo m r step p s
  -- the name of a function-like macro
  seeks : (read : Read) (opened : Macro) (c : Sought) (step : PlacedStep Taken) (m n p q : Expander) (r s t : Reader)
      → StepsTaking m r (Ok read) n s → Opens s read opened
      → opened.definition.function_like ≡ true
      → Seeks n s c p t
      → Finds read opened c step p q
      → TurnsTo m r step q t

-- a token that is given holds ordinary tokens; this says nothing of the tokens of a call
abbrev pub TakenHoldsOrdinary : Taken → Type 0
TakenHoldsOrdinary (taken.Token read) = HoldsOrdinary read.token.value
TakenHoldsOrdinary (taken.Call call) = ⊤

-- something is taken that isn't the end
pub record TakesSomething (m : Expander) (r : Reader) : Type 0 where
  pub step : PlacedStep Read
  pub after : Expander
  pub reader : Reader
  pub takes : StepsTaking m r step after reader
  pub goes : is_end step ≡ false

-- a turn that ran out of memory, with something to take
pub record IsRefusedTurn (m : Expander) (r : Reader) (step : PlacedStep Taken) : Type 0 where
  pub some : TakesSomething m r
  pub fault : step ≡ Err (Error no_memory)

-- a turn, unless memory runs out
abbrev pub TurnsOrRefuses : Expander → Reader → PlacedStep Taken → Expander → Reader → Type 0
TurnsOrRefuses m r step n s = TurnsTo m r step n s ⊎ IsRefusedTurn m r step
