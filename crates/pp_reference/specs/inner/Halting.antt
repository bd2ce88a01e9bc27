-- What the parts of the plain program give: a value or a fault as the definitions say, or a stop.
use Rattle.std.specs.Prelude.{◌≡◌, Result, Ok, Err, ⊤}
use Rattle.pp_model.specs.Places.{Fault}
use Rattle.pp_reference.specs.declared.stop.Halt.{Halt}
use Rattle.pp_reference.specs.declared.stop.Halt.TheVariants as halt

-- a value or a fault is that of the definitions; nothing is asked of a stop
abbrev pub Meets : {A : Type 0} → Result A Halt → Result A Fault → Type 0
Meets (Ok value) wanted = wanted ≡ Ok value
Meets (Err (halt.Fault fault)) wanted = wanted ≡ Err fault
Meets (Err (halt.Stop stop)) wanted = ⊤
