-- The end of a line that isn't read.
use Rattle.std.specs.Prelude.{ℕ, Bool, true, false, List, [], ◌∷◌, Result, Ok, unwrap_or}
use Rattle.pp_expression.specs.Answers.{◌>>=◌}
use Rattle.pp_lexer.specs.Lexed.{Seen}
use Rattle.pp_model.specs.Lines.{line_end, newline_start}
use Rattle.pp_model.specs.Places.{Fault}
use Rattle.pp_macros.specs.inner.LineReading.{passed_line, item_goes_on, line_goes_on}

-- whether the line goes on after its first item; an error of the lexer is passed, or not
abbrev pub goes_on_by : Bool → List Seen → Result Bool Fault
goes_on_by true rest = Ok (item_goes_on rest)
goes_on_by false rest = line_goes_on rest

-- where the line's NewLine begins if it is the first item, and else this
abbrev pub first_end : ℕ → List Seen → ℕ
first_end from [] = from
first_end from (s ∷ rest) = unwrap_or (newline_start s.item) from

-- where the line ends that is passed, or its first error if errors aren't passed
abbrev pub passed_end : Bool → ℕ → List Seen → Result ℕ Fault
passed_end passes from rest = passed_line passes rest >>= λ passed. Ok (line_end from rest)
