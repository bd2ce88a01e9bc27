-- Steps in which memory didn't run out. Taking and painting need no memory of their own.
use Rattle.std.proofs.Common.{◌≡◌, Bool, List, false, refl, Ok, Err}
use Rattle.pp_model.specs.Names.{Name}
use Rattle.pp_model.specs.declared.read.Read.{Read}
use Rattle.pp_macros.specs.Item.{PlacedStep, wants_memory, is_out_of_memory}
use Rattle.pp_macros.specs.inner.CallTurns.{is_out_of_memory_step}
use Rattle.pp_macros.specs.inner.Frames.{Frame}
use Rattle.pp_macros.specs.inner.Expander.{taken_as}
use Rattle.pp_macros.specs.inner.Reader.{Reader}
use Rattle.pp_macros.specs.inner.Reading.{painted_step}
use Rattle.pp_macros.specs.declared.calls.Taken.{Taken}
use Rattle.pp_macros.specs.declared.step.PlacedExit.{PlacedExit}
use Rattle.pp_macros.specs.declared.step.PlacedExit.TheVariants.{Error, Continue, Finished}

-- a turn that was refused memory
abbrev pub wants_taken : PlacedStep Taken → Bool
wants_taken (Err (Error fault)) = is_out_of_memory fault.0
wants_taken _ = false

pub taken_reported : (move : PlacedStep Read) (frames : List Frame) (reader : Reader) → wants_memory (taken_as move frames reader) ≡ false
    → wants_memory move ≡ false
taken_reported (Ok read) frames reader h = refl
taken_reported (Err exit) frames reader h = h

pub painted_reported : (names : List Name) (first : PlacedStep Read) → wants_memory (painted_step names first) ≡ false → wants_memory first ≡ false
painted_reported names (Ok read) h = refl
painted_reported names (Err exit) h = h

pub exit_reported : (exit : PlacedExit) → wants_taken (Err exit) ≡ false → wants_memory {T = Read} (Err exit) ≡ false
exit_reported (Error fault) h = h
exit_reported Continue h = refl
exit_reported Finished h = refl

pub not_refused : (next : PlacedStep Read) → is_out_of_memory_step next ≡ false → wants_memory next ≡ false
not_refused (Ok read) h = refl
not_refused (Err Continue) h = refl
not_refused (Err Finished) h = refl
not_refused (Err (Error fault)) h = h
