-- Parts of the table of directives, under names of their own.
use Rattle.std.specs.Prelude.{ℕ, ◌+◌, Option}
use Rattle.std.specs.Option.{option_map_or}
use Rattle.pp_model.specs.Places.{Fault}
use Rattle.pp_model.specs.Moves.{Move, failing, passing}

-- a line that is skipped, by the lexer's first error on it, if there is one
abbrev pub skip_by : Option Fault → ℕ → Move
skip_by found taken = option_map_or failing found (passing taken)

-- the same with this many items more, such as a directive's `#` and its word
abbrev pub taking_more : ℕ → Move → Move
taking_more count move = record move { taken = count + move.taken }
