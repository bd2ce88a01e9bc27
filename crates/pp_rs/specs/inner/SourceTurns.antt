-- One turn of the expander over a source; a call is finished in the same turn (docs/RULES.md, Expansion 1 to 10).
use Rattle.std.specs.Prelude.{◌≡◌, ◌⊎◌, ℕ, [], ◌++◌, Ok, Err}
use Rattle.pp_model.specs.declared.read.Read.{Read}
use Rattle.pp_model.specs.Places.{PlacedFault}
use Rattle.pp_model.specs.Emitting.{answers_at}
use Rattle.pp_macros.specs.inner.Calling.{MacroCall}
use Rattle.pp_macros.specs.inner.CallTurns.{TurnsTo, TakesSomething}
use Rattle.pp_macros.specs.inner.Finishing.{site_at, IsOpened}
use Rattle.pp_macros.specs.inner.Frames.{names_of}
use Rattle.pp_macros.specs.Item.{PlacedStep, no_memory}
use Rattle.pp_macros.specs.inner.Expander.{Expander}
use Rattle.pp_macros.specs.inner.Reader.{of_source}
use Rattle.pp_macros.specs.inner.Source.{Source}
use Rattle.pp_macros.specs.declared.calls.Taken.{Taken}
use Rattle.pp_macros.specs.declared.calls.Taken.TheVariants as taken
use Rattle.pp_macros.specs.declared.step.PlacedExit.TheVariants.{Error, Continue}
use Rattle.pp_model.specs.Numbering.{list_numbering}

-- after a call over this source its frame is open, which is a pause, or its fault is given
pub data FollowsCall (levels : ℕ) (source : Source) (call : MacroCall) (old : Expander) (step : PlacedStep Read)
    (new : Expander) : Type 0 where
  opened : step ≡ Err Continue
      → IsOpened levels (list_numbering source.rules source.line_offset) source.definitions
      (names_of old.frames ++ []) call old new
      → FollowsCall levels source call old step new
  refused : (fault : PlacedFault)
      → step ≡ Err (Error fault)
      → answers_at levels call.opened.definition
      (site_at call (list_numbering source.rules source.line_offset) source.definitions (names_of old.frames ++ []))
      (Err fault)
      → new ≡ old
      → FollowsCall levels source call old step new

-- what a turn gives: a token, a call that is finished, or an exit as it is
abbrev pub FollowsTurn : ℕ → Source → PlacedStep Taken → Expander → PlacedStep Read → Expander → Type 0
FollowsTurn levels source (Ok (taken.Token read)) old step new = (step ≡ Ok read) × (new ≡ old)
FollowsTurn levels source (Ok (taken.Call call)) old step new = FollowsCall levels source call old step new
FollowsTurn levels source (Err exit) old step new = (step ≡ Err exit) × (new ≡ old)

pub record TurnsSource (levels : ℕ) (old : Expander) (source : Source) (step : PlacedStep Read) (new : Expander)
    (after : Source) : Type 0 where
  pub taken : PlacedStep Taken
  pub between : Expander
  pub turns : TurnsTo old (of_source source) taken between (of_source after)
  pub follows : FollowsTurn levels after taken between step new

-- memory ran out, and there was something to take
pub record IsRefusedOver (old : Expander) (source : Source) (step : PlacedStep Read) : Type 0 where
  pub some : TakesSomething old (of_source source)
  pub fault : step ≡ Err (Error no_memory)

-- a turn, unless memory runs out
abbrev pub StepsOver : ℕ → Expander → Source → PlacedStep Read → Expander → Source → Type 0
StepsOver levels old source step new after =
    TurnsSource levels old source step new after ⊎ IsRefusedOver old source step
