-- What the lexer, the preprocessor and one step of a reader give.
use Rattle.std.specs.Prelude.{ℕ, Bool, true, false, Result, Ok, Err}
use Rattle.pp_lexer.specs.declared.lexer.item.Token.{Token as LexerToken}
use Rattle.pp_lexer.specs.declared.token.Location.{Location}
use Rattle.pp_lexer.specs.PreprocessorError.{out_of_memory}
use Rattle.pp_model.specs.Places.{PlacedFault, placed, source_text}
use Rattle.pp_lexer.specs.declared.token.PreprocessorError.{PreprocessorError}
use Rattle.pp_lexer.specs.declared.token.Token.{Token}
use Rattle.pp_lexer.specs.declared.token.PreprocessorError.TheVariants.{OutOfMemory}
use Rattle.pp_macros.specs.declared.step.PlacedExit.{PlacedExit}
use Rattle.pp_macros.specs.declared.step.PlacedExit.TheVariants.{Error}

-- an error with its place
abbrev pub Fault : Type 0
Fault = PreprocessorError × Location

abbrev pub LexerItem : Type 0
LexerItem = Result LexerToken Fault

abbrev pub Item : Type 0
Item = Result Token Fault

abbrev pub PlacedStep : Type 0 → Type 0
PlacedStep T = Result T PlacedExit

-- a result over this text as a step
abbrev pub as_placed_step : {T : Type 0} → ℕ → Result T Fault → PlacedStep T
as_placed_step text (Ok value) = Ok value
as_placed_step text (Err fault) = Err (Error (placed text fault))

-- the fault of a step for which memory ran out
abbrev pub no_memory : PlacedFault
no_memory = placed source_text out_of_memory

abbrev pub is_out_of_memory : PreprocessorError → Bool
is_out_of_memory OutOfMemory = true
is_out_of_memory _ = false

-- the step is an error that says that memory ran out
abbrev pub wants_memory : {T : Type 0} → PlacedStep T → Bool
wants_memory (Err (Error fault)) = is_out_of_memory fault.0
wants_memory _ = false
