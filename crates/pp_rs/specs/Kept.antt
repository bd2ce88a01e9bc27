-- What a preprocessor keeps: the states of a run that it stands for, whether memory ran out, how much is left, which
-- errors of the lexer were not reported yet, the place of the error that was given last, the text of the last item, the
-- call from which it came and the line that it asks for, and the rules. Nothing here has to be believed. Contracts of
-- public calls say what holds of `Stands`, `is_spent`, `most_items`, `errors_left`, `error_place`, `call_place`,
-- `item_text`, `asked_line` and `rules_of`, and no proof of a caller looks into them.
use Rattle.std.specs.Prelude.{◌≡◌, Bool, false, IsTrue, if◌then◌else◌, ℕ, List, Option, Some, None}
use Rattle.pp_lexer.specs.declared.rules.Rules.{Rules}
use Rattle.pp_lexer.specs.declared.token.Location.{Location}
use Rattle.pp_lexer.specs.TokenValue.{is_ordinary}
use Rattle.pp_model.specs.Emitting.{expansion_limit}
use Rattle.pp_model.specs.Onward.{Onward}
use Rattle.pp_model.specs.Reading.{Expander}
use Rattle.pp_model.specs.declared.place.Place.{Place}
use Rattle.pp_model.specs.declared.read.Read.{Read}
use Rattle.pp_model.specs.declared.splice.CallPlace.{CallPlace}
use Rattle.pp_model.specs.declared.splice.Origin.{Origin}
use Rattle.pp_macros.specs.inner.Expander.{kept_call}
use Rattle.pp_macros.specs.inner.Giving.{GivesAhead}
use Rattle.pp_macros.specs.inner.Left.{work_of}
use Rattle.pp_macros.specs.LexerErrors.{ErrorAt}
use Rattle.pp_macros.specs.inner.Expander as kept
use Rattle.pp_macros.specs.inner.Reader.{of_source}
use Rattle.pp_macros.specs.inner.Source.{Source}
use Rattle.pp_rs.specs.inner.AllTexts.{all_unreported}
use Rattle.pp_rs.specs.inner.Stands.{StandsFor}
use Rattle.pp_macros.specs.inner.Unreported.{unreported_with}

-- What is kept of the last item: its text, and if it was an error its call and, if it asks for a text, the rest of its
-- line.
pub record LastItem : Type 0 where
  pub text : ℕ
  pub call : Option CallPlace
  pub asks : Option Location

-- the open macros with what is held, the source after them, whether memory ran out, the place of the last error, the
-- last item, where the outermost macro was called that was open when the
-- name was taken after which the held step was met, and the rules by which the source and contents are read
pub record Preprocessing : Type 0 where
  pub expander : kept.Expander
  pub source : Source
  pub spent : Bool
  pub place : Location
  pub last : LastItem
  pub name_call : Option CallPlace
  pub rules : Rules

-- the preprocessor stands for this state of a run
unfoldable pub Stands : Preprocessing → Expander Onward → Type 0
Stands p state = StandsFor p.expander p.source state

-- an open macro gives this token next, as its body or an argument has it, and it is ordinary
unfoldable pub IsAhead : Preprocessing → Read → Type 0
IsAhead p read =
    (p.spent ≡ false) × IsTrue (is_ordinary read.token.value)
    × (painted : Bool) × GivesAhead (of_source p.source) p.expander painted read

-- memory for an item ran out
unfoldable pub is_spent : Preprocessing → Bool
is_spent p = p.spent

-- a bound of how many items still come
unfoldable pub most_items : Preprocessing → ℕ
most_items p = if p.spent then 0 else work_of expansion_limit p.expander (of_source p.source)

-- the errors of the lexer that were not reported yet, each with its true place
unfoldable pub errors_left : Preprocessing → List ErrorAt
errors_left p = unreported_with p.expander.held (all_unreported p.source)

-- the true place of the error that was given last
unfoldable pub error_place : Preprocessing → Location
error_place p = p.place

-- what is noted of an item that is no error
abbrev pub from_text : ℕ → LastItem
from_text text = record { text = text; call = None; asks = None }

-- what is noted of an error at this place
abbrev pub last_error : Place → LastItem
last_error place = record { text = place.text; call = place.call; asks = place.asks }

-- the call of an error, or if it has none this one
abbrev pub call_or : Option CallPlace → Option CallPlace → Option CallPlace
call_or (Some call) other = Some call
call_or None other = other

-- where the macro was called from which the last item came
unfoldable pub call_place : Preprocessing → Option CallPlace
call_place p = call_or p.last.call (kept_call p.expander.held p.name_call p.expander.frames)

-- the text in which the place of the last item is
unfoldable pub item_text : Preprocessing → ℕ
item_text p = p.last.text

-- where the last item came from
abbrev pub origin_of : Preprocessing → Origin
origin_of p = record { text = item_text p; call = call_place p }

-- the rest of the line of the last item, if it is an `#include` line that asks for its text
unfoldable pub asked_line : Preprocessing → Option Location
asked_line p = p.last.asks

-- the rules by which the source and contents are read
unfoldable pub rules_of : Preprocessing → Rules
rules_of p = p.rules
