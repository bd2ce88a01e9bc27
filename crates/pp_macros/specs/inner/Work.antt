-- How much a frame and a source still have to do: numbers that each step lowers.
use Rattle.std.specs.Prelude.{ℕ, ◌+◌, ◌*◌, Bool, true, false, not, ◌&&◌, List, [], ◌∷◌, length, Option, Some, None, Err}
use Rattle.pp_lexer.specs.declared.token.Token.{Token}
use Rattle.pp_model.specs.declared.read.Read.{Read}
use Rattle.pp_model.specs.Names.{Name}
use Rattle.pp_model.specs.SpliceList.{parameter_of}
use Rattle.pp_macros.specs.inner.Defined.{body_tokens}
use Rattle.pp_macros.specs.inner.Frames.{Frame, argument_at}
use Rattle.pp_macros.specs.Item.{PlacedStep, wants_memory}
use Rattle.pp_macros.specs.inner.Source.{SuspendedText, Source}
use Rattle.pp_macros.specs.declared.step.PlacedExit.TheVariants.{Finished}

-- A token of a body takes one step. A parameter takes one step itself, one for each token of its argument, and one for
-- the argument's end.
abbrev pub token_steps : List (List Read) → Option ℕ → ℕ
token_steps arguments None = 1
token_steps arguments (Some k) = length (argument_at arguments k) + 2

-- the steps of a body, and one for its end
abbrev pub body_steps : List Name → List (List Read) → List Token → ℕ
body_steps parameters arguments [] = 1
body_steps parameters arguments (token ∷ rest) =
    token_steps arguments (parameter_of parameters token.value) + body_steps parameters arguments rest

abbrev pub reading_steps : Option (List Read) → ℕ
reading_steps None = 0
reading_steps (Some tokens) = length tokens + 1

-- the steps that are left in a frame
abbrev pub steps_left : Frame → ℕ
steps_left f = reading_steps f.reading + body_steps f.parameters f.arguments f.body

-- how many items and open blocks are left in the texts around, each of which is gone back to once
abbrev pub reads_around : List SuspendedText → ℕ
reads_around [] = 0
reads_around (text ∷ texts) = 1 + length text.rest + length text.blocks + reads_around texts

-- the same of the source with the texts around: it gives no more
abbrev pub most_reads : Source → ℕ
most_reads source = length source.rest + length source.blocks + reads_around source.around

-- how many steps a macro at most has that is still to open, if it has no arguments
abbrev pub most_steps : Source → ℕ
most_steps source = 2 * (body_tokens source.definitions + most_reads source) + 1

-- how many names are at most defined at any later time
abbrev pub most_names : Source → ℕ
most_names source = length source.definitions + most_reads source

abbrev pub is_end : {T : Type 0} → PlacedStep T → Bool
is_end (Err Finished) = true
is_end _ = false

-- reading goes on after the step: it isn't the end, and memory didn't run out
abbrev pub goes_on : {T : Type 0} → PlacedStep T → Bool
goes_on step = not (is_end step) && not (wants_memory step)
