-- The fault of a call is noted apart from what is returned.
use Rattle.std.specs.Prelude.{Option, Some, None, Result, Ok, Err}
use Rattle.pp_model.specs.Places.{PlacedFault, fault_in}
use Rattle.pp_model.specs.declared.splice.CallPlace.{CallPlace}
use Rattle.pp_macros.specs.declared.halt.Halted.{Halted}
use Rattle.pp_macros.specs.declared.halt.PlacedHalt.{PlacedHalt}
use Rattle.pp_macros.specs.declared.halt.PlacedHalt.TheVariants.{Fault, OutOfMemory}

-- why a call has no value for which this fault was noted, if one was
abbrev pub noted_halt : Option PlacedFault → PlacedHalt
noted_halt (Some fault) = Fault fault
noted_halt None = OutOfMemory

-- what is returned, with the fault that was noted
abbrev pub noted : {A : Type 0} → Result A Halted → Option PlacedFault → Result A PlacedHalt
noted (Ok value) fault = Ok value
noted (Err halted) fault = Err (noted_halt fault)

-- the noted fault in this call, if there is one
abbrev pub noted_in : Option CallPlace → Option PlacedFault → Option PlacedFault
noted_in call (Some fault) = Some (fault_in call fault)
noted_in call None = None
