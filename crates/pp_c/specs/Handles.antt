-- What the handle of a stream owns.
use Rattle.std.specs.Prelude.{◌≡◌, Option, None, Some}
use base.Fml.{Fml, fex, ftrue}
use denote.RawPtr.{Ptr, null_ptr}
use Rattle.std.specs.declared.alloc.Global.{Global}
use Rattle.std.specs.contracts.impls.GlobalAllocator.TheImpl.{ghosts}
use Rattle.std_alloc.specs.Box.Ownership.{box_owns}
use Rattle.std_alloc.specs.declared.boxed.Box.{Box}
use Rattle.pp_c.specs.contracts.stream.state.State.{the_row}
use Rattle.pp_c.specs.declared.stream.loose.Loose.{Loose}
use Rattle.pp_c.specs.Streams.{Streaming}

-- the heap, of which there is one
abbrev pub heap : Global
heap = record { memory = record { seal = tt } }

-- the pointer is null if nothing is kept, and else leads to a block of the heap with what is kept
abbrev pub kept_at : Ptr → Option Streaming → Fml
kept_at p None = fex (p ≡ null_ptr) (λ _. ftrue)
kept_at p (Some state) = box_owns (ghosts.dealloc_token heap) the_row p state

-- what is kept in the box, if there is one
abbrev pub kept_in : Option (Box Streaming Global) → Option Streaming
kept_in None = None
kept_in (Some box) = Some box.value

-- the same of a box as its pointer
abbrev pub loose_in : Option (Loose Streaming Global) → Option Streaming
loose_in None = None
loose_in (Some loose) = Some loose.value
