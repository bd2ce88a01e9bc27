-- What a step over tokens gives: a value, or the reason why there is none.
use Rattle.std.specs.Prelude.{Result, Ok, Err}
use Rattle.pp_macros.specs.Item.{Fault}
use Rattle.pp_rs.specs.declared.pp.step.StepExit.{StepExit}
use Rattle.pp_rs.specs.declared.pp.step.StepExit.TheVariants.{Error}

-- a result as a step
abbrev pub as_step : {T : Type 0} → Result T Fault → Result T StepExit
as_step (Ok value) = Ok value
as_step (Err fault) = Err (Error fault)
