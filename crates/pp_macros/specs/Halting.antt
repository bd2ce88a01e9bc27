-- Why reading a part of the source stopped without a value, as the exit of a step.
use Rattle.std.specs.Prelude.{ℕ, if◌then◌else◌, Option, Result, Ok, Err}
use Rattle.pp_model.specs.Places.{PlacedFault, fault_in, placed}
use Rattle.pp_model.specs.declared.splice.CallPlace.{CallPlace}
use Rattle.pp_macros.specs.Item.{is_out_of_memory, no_memory}
use Rattle.pp_macros.specs.declared.halt.Halt.{Halt}
use Rattle.pp_macros.specs.declared.halt.Halt.TheVariants as halt
use Rattle.pp_macros.specs.declared.halt.PlacedHalt.{PlacedHalt}
use Rattle.pp_macros.specs.declared.halt.PlacedHalt.TheVariants as placed_halt
use Rattle.pp_macros.specs.declared.step.PlacedExit.{PlacedExit}
use Rattle.pp_macros.specs.declared.step.PlacedExit.TheVariants.{Error}

-- the same with the text of the fault, which is this one
abbrev pub placed_halt_of : ℕ → Halt → PlacedHalt
placed_halt_of text (halt.Fault fault) = placed_halt.Fault (placed text fault)
placed_halt_of text halt.OutOfMemory = placed_halt.OutOfMemory

-- the same in this call, if there is one
abbrev pub halt_in : Option CallPlace → PlacedHalt → PlacedHalt
halt_in call (placed_halt.Fault fault) = placed_halt.Fault (fault_in call fault)
halt_in call placed_halt.OutOfMemory = placed_halt.OutOfMemory

abbrev pub result_in : {A : Type 0} → Option CallPlace → Result A PlacedHalt → Result A PlacedHalt
result_in call (Ok value) = Ok value
result_in call (Err halt) = Err (halt_in call halt)

-- the exit of a step that stops so
abbrev pub exit_of : PlacedHalt → PlacedExit
exit_of (placed_halt.Fault fault) = Error fault
exit_of placed_halt.OutOfMemory = Error no_memory

-- `OutOfMemory` as such, any other error as a fault
abbrev pub halt_of : PlacedFault → PlacedHalt
halt_of fault = if is_out_of_memory fault.0 then placed_halt.OutOfMemory else placed_halt.Fault fault
