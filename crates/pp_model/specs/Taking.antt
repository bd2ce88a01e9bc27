-- What is taken next, before it is looked up (docs/RULES.md, Expansion 1 to 3).
use Rattle.std.specs.Prelude.{◌≡◌, ℕ, if◌then◌else◌, List, [], ◌∷◌, Option, Some, None, unwrap_or}
use Rattle.pp_lexer.specs.declared.token.Integer.{Integer as IntegerLiteral}
use Rattle.pp_model.specs.Places.{place_of}
use Rattle.pp_model.specs.declared.place.Place.{Place}
use Rattle.pp_lexer.specs.declared.token.PreprocessorError.TheVariants.{LineOverflow}
use Rattle.pp_lexer.specs.declared.token.TokenValue.TheVariants.{Integer}
use Rattle.pp_model.specs.Names.{is_identifier, line_name}
use Rattle.pp_model.specs.SpliceList.{after_marks, outermost_line}
use Rattle.pp_model.specs.Painting.{read_in, taken_among}
use Rattle.pp_model.specs.Reading.{Reading, Expander, masked_names}
use Rattle.pp_model.specs.declared.read.Read.{Read}
use Rattle.pp_model.specs.declared.read.Taken.{Taken}
use Rattle.pp_model.specs.declared.read.Taken.TheVariants as taken
use Rattle.pp_model.specs.declared.splice.Entry.{Entry}
use Rattle.pp_model.specs.declared.splice.Entry.TheVariants.{Plain}

-- a line number at this place, or the fault of one that is out of range
abbrev pub line_number : Place → Option IntegerLiteral → Taken
line_number place (Some number) =
    taken.Token (read_in place.text (record { value = Integer number; location = place.location }))
line_number place None = taken.Fault (LineOverflow, place)

-- `__LINE__` becomes a number at once: from the line of the outermost open macro, or otherwise from its own
abbrev pub shown_token : (ℕ → Option IntegerLiteral) → List Entry → Read → Taken
shown_token shown_line after read =
    if is_identifier line_name read.token.value
    then line_number (place_of read)
    (shown_line (unwrap_or (outermost_line after) read.token.location.line))
    else taken.Token read

-- what the reader gives, with `__LINE__` as a number
abbrev pub shown_outcome : (ℕ → Option IntegerLiteral) → Taken → Taken
shown_outcome shown_line (taken.Token read) = shown_token shown_line [] read
shown_outcome shown_line x = x

-- what comes first
pub data Fetches {R : Type 0} (I : Reading R) : Expander R → Taken → Expander R → Type 0 where
  -- what was held
  held : (o : Taken) (e f : Expander R)
      → e.held ≡ Some o
      → f ≡ record e { held = None }
      → Fetches I e o f
  -- the first token after the end marks at the list's front
  listed : (o : Taken) (read : Read) (rest : List Entry) (e f : Expander R)
      → e.held ≡ None
      → after_marks e.list ≡ Plain read ∷ rest
      → o ≡ shown_token (I.shown_line e.reader) rest read
      → f ≡ record e { list = rest }
      → Fetches I e o f
  -- what the reader gives, if the list holds no token
  read : (x o : Taken) (reader : R) (e f : Expander R)
      → e.held ≡ None
      → after_marks e.list ≡ []
      → I.Reads e.reader x reader
      → o ≡ shown_outcome (I.shown_line reader) x
      → f ≡ record e { list = []; reader = reader }
      → Fetches I e o f

-- What is taken: what comes first, painted if it is an identifier whose name is open then, here or around.
pub record Takes {R : Type 0} (I : Reading R) (e : Expander R) (o : Taken) (f : Expander R) : Type 0 where
  pub first : Taken
  pub fetches : Fetches I e first f
  pub paints : o ≡ taken_among (masked_names f) first
