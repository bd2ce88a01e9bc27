-- What the calls of C over the handle of a stream say of what it keeps.
use Rattle.std.specs.Prelude.{◌≡◌, ℕ, List, Option, None, Some, is_some}
use Rattle.pp_model.specs.Places.{Fault}
use Rattle.pp_rs.specs.Location.{nowhere}
use Rattle.pp_rs.specs.declared.token.Location.{Location}
use Rattle.pp_c.specs.Numbers.{error_number}
use Rattle.pp_c.specs.Options.{stream_rules, unless_zero}
use Rattle.pp_c.specs.Streams.{Streaming, Defines, IsOpened}
use Rattle.pp_c.specs.declared.items.ContentFault.{ContentFault}
use Rattle.pp_c.specs.declared.options.Options.{Options}
use Rattle.pp_c.specs.declared.status.Shortage.{Shortage}

-- a stream that was opened by options, flags and a source
abbrev pub IsBegun : Options → ℕ → List ℕ → Streaming → Type 0
IsBegun options flags = IsOpened (stream_rules options flags) (is_some (unless_zero options.budget))

-- it was open and is, and what it keeps changed so
abbrev pub Goes : (Streaming → Streaming → Type 0) → Option Streaming → Option Streaming → Type 0
Goes change None kept = ⊥
Goes change (Some old) None = ⊥
Goes change (Some old) (Some new) = change old new

-- what ran out of it, if it is open
abbrev pub ran_out_of : Option Streaming → Option Shortage
ran_out_of None = None
ran_out_of (Some stream) = stream.ran_out

-- it is open, and nothing ran out
abbrev pub CanGoOn : Option Streaming → Type 0
CanGoOn None = ⊥
CanGoOn (Some stream) = stream.ran_out ≡ None

-- an error by its number, or 0, with its place
abbrev pub fault_at : ℕ → Location → ContentFault
fault_at error place = record { error = error; start = place.start; end = place.end; line = place.line }

-- no error, or this one with its place in the content
abbrev pub written_fault : Option Fault → ContentFault
written_fault None = fault_at 0 nowhere
written_fault (Some fault) = fault_at (error_number fault.0) fault.1

-- a definition was added, or its first error is written
pub record DefinesAs (name content : List ℕ) (written : ContentFault) (old new : Streaming) : Type 0 where
  pub fault : Option Fault
  pub defines : Defines name content fault old new
  pub is : written ≡ written_fault fault
