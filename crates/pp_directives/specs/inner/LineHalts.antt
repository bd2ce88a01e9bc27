-- Why a `#line` gives no line number.
use Rattle.std.specs.Prelude.{ℕ, Option, Result, Ok, Err, ⊤}
use Rattle.pp_macros.specs.declared.halt.PlacedHalt.{PlacedHalt}
use Rattle.pp_macros.specs.declared.halt.PlacedHalt.TheVariants as halt
use Rattle.pp_directives.specs.declared.line_value.LineHalt.{LineHalt}

-- the line number or why there is none; a number that was read before a fault is left out
abbrev pub without_number : Result ℕ LineHalt → Result ℕ PlacedHalt
without_number (Ok number) = Ok number
without_number (Err refused) = Err refused.halt

-- P holds of the number that was read before a fault; if memory ran out, this says nothing
abbrev pub HasFirst : PlacedHalt → Option ℕ → (Option ℕ → Type 0) → Type 0
HasFirst (halt.Fault fault) number P = P number
HasFirst halt.OutOfMemory number P = ⊤

abbrev pub GivesFirst : Result ℕ LineHalt → (Option ℕ → Type 0) → Type 0
GivesFirst (Ok number) P = ⊤
GivesFirst (Err refused) P = HasFirst refused.halt refused.number P
