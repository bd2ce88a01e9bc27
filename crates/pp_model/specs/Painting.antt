-- Painted tokens: an identifier that is taken while its name is open opens no macro from then on
-- (docs/RULES.md, Expansion 2 and 3).
use Rattle.std.specs.Prelude.{ℕ, Bool, false, ◌||◌, List, Option, Some, None}
use Rattle.pp_lexer.specs.declared.token.Location.{Location}
use Rattle.pp_lexer.specs.declared.token.PreprocessorError.TheVariants.{UnknownDirective}
use Rattle.pp_lexer.specs.declared.token.Token.{Token}
use Rattle.pp_lexer.specs.declared.token.TokenValue.{TokenValue}
use Rattle.pp_lexer.specs.declared.token.TokenValue.TheVariants.{Ident}
use Rattle.pp_model.specs.Places.{PlacedFault, asking, placed, unplaced}
use Rattle.pp_model.specs.Names.{Name, is_in}
use Rattle.pp_model.specs.declared.outcome.Outcome.{Outcome}
use Rattle.pp_model.specs.declared.outcome.Outcome.TheVariants as outcome
use Rattle.pp_model.specs.declared.read.Read.{Read}
use Rattle.pp_model.specs.declared.read.Taken.{Taken}
use Rattle.pp_model.specs.declared.read.Taken.TheVariants as taken

-- a token as it begins, in the text with this number
abbrev pub read_in : ℕ → Token → Read
read_in text token = record { token = token; text = text; painted = false }

-- the value is an identifier among these names
abbrev pub is_one_of : List Name → TokenValue → Bool
is_one_of names (Ident name) = is_in name names
is_one_of names _ = false

-- a token that is taken while these names are open: an identifier among them is painted, and what was painted stays so
abbrev pub painted_among : List Name → Read → Read
painted_among names read = record read { painted = read.painted || is_one_of names read.token.value }

abbrev pub taken_among : List Name → Taken → Taken
taken_among names (taken.Token read) = taken.Token (painted_among names read)
taken_among names (taken.Fault fault) = taken.Fault fault
taken_among names taken.End = taken.End

-- what this text gives, unpainted; an `#include` line is the error of an unknown directive that asks for its text
abbrev pub taken_of : ℕ → Outcome → Taken
taken_of text (outcome.Token token) = taken.Token (read_in text token)
taken_of text (outcome.Fault fault) = taken.Fault (placed text fault)
taken_of text (outcome.Include line) = taken.Fault (UnknownDirective, asking text line)
taken_of text outcome.End = taken.End

-- an error as an item, with the rest of its line if it asks for a text
abbrev pub fault_item : PlacedFault → Option Location → Outcome
fault_item fault (Some rest) = outcome.Include (record { word = fault.1.location; rest = rest })
fault_item fault None = outcome.Fault (unplaced fault)

-- an item, without its paint and its text
abbrev pub item_of : Taken → Outcome
item_of (taken.Token read) = outcome.Token read.token
item_of (taken.Fault fault) = fault_item fault fault.1.asks
item_of taken.End = outcome.End
