-- Why a directive gives nothing, and where.
use Rattle.std.specs.Prelude.{ℕ, Result, Ok, Err}
use Rattle.pp_lexer.specs.declared.token.PreprocessorError.TheVariants.{UnknownDirective}
use Rattle.pp_lexer.specs.declared.token.Token.{Token}
use Rattle.pp_model.specs.Places.{asking, placed, unasked, unplaced}
use Rattle.pp_macros.specs.Item.{PlacedStep}
use Rattle.pp_macros.specs.Halting.{exit_of}
use Rattle.pp_macros.specs.declared.halt.Halt.{Halt}
use Rattle.pp_macros.specs.declared.halt.Halt.TheVariants as halt
use Rattle.pp_macros.specs.declared.halt.PlacedHalt.{PlacedHalt}
use Rattle.pp_macros.specs.declared.halt.PlacedHalt.TheVariants as placed_halt
use Rattle.pp_macros.specs.declared.step.PlacedExit.TheVariants.{Error, Continue}
use Rattle.pp_directives.specs.declared.given.Given.{Given}
use Rattle.pp_directives.specs.declared.given.Given.TheVariants.{Nothing, Item, Include}
use Rattle.pp_directives.specs.declared.directive_halt.DirectiveHalt.{DirectiveHalt}
use Rattle.pp_directives.specs.declared.directive_halt.DirectiveHalt.TheVariants.{Fault, Expanded, OutOfMemory}

abbrev pub of_line : Halt → DirectiveHalt
of_line (halt.Fault fault) = Fault fault
of_line halt.OutOfMemory = OutOfMemory

abbrev pub of_expansion : PlacedHalt → DirectiveHalt
of_expansion (placed_halt.Fault fault) = Expanded fault
of_expansion placed_halt.OutOfMemory = OutOfMemory

-- the same with the text of the fault, if this is the text that is read; it asks for nothing
abbrev pub placed_at : ℕ → DirectiveHalt → PlacedHalt
placed_at text (Fault fault) = placed_halt.Fault (placed text fault)
placed_at text (Expanded fault) = placed_halt.Fault (unasked fault)
placed_at text OutOfMemory = placed_halt.OutOfMemory

abbrev pub result_at : {A : Type 0} → ℕ → Result A DirectiveHalt → Result A PlacedHalt
result_at text (Ok value) = Ok value
result_at text (Err halt) = Err (placed_at text halt)

-- what a directive of this text gives, as a step: an `#include` line is the error that asks for its text
abbrev pub shown : ℕ → Given → PlacedStep Token
shown text Nothing = Err Continue
shown text (Item token) = Ok token
shown text (Include line) = Err (Error (UnknownDirective, asking text line))

-- a step that gives this
abbrev pub step_at : ℕ → Result Given DirectiveHalt → PlacedStep Token
step_at text (Ok given) = shown text given
step_at text (Err halt) = Err (exit_of (placed_at text halt))

-- the same without the text of the fault
abbrev pub unplaced_halt : DirectiveHalt → Halt
unplaced_halt (Fault fault) = halt.Fault fault
unplaced_halt (Expanded fault) = halt.Fault (unplaced fault)
unplaced_halt OutOfMemory = halt.OutOfMemory

abbrev pub unplaced_result : {A : Type 0} → Result A DirectiveHalt → Result A Halt
unplaced_result (Ok value) = Ok value
unplaced_result (Err halt) = Err (unplaced_halt halt)
