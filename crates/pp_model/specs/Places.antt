-- Places in texts, and errors with their places (docs/RULES.md, Errors).
use Rattle.std.specs.Prelude.{ℕ, Option, Some, None}
use Rattle.pp_lexer.specs.declared.token.Location.{Location}
use Rattle.pp_lexer.specs.declared.token.PreprocessorError.{PreprocessorError}
use Rattle.pp_model.specs.declared.outcome.IncludeLine.{IncludeLine}
use Rattle.pp_model.specs.declared.place.Place.{Place}
use Rattle.pp_model.specs.declared.read.Read.{Read}
use Rattle.pp_model.specs.declared.splice.CallPlace.{CallPlace}

-- the number of the source among the texts
abbrev pub source_text : ℕ
source_text = 0

-- a place of the text with this number
abbrev pub in_text : ℕ → Location → Place
in_text text location = record { location = location; text = text; call = None; asks = None }

-- the place of the word of an `#include` line of this text that asks for its text
abbrev pub asking : ℕ → IncludeLine → Place
asking text line = record (in_text text line.word) { asks = Some line.rest }

-- the place of a token that is read
abbrev pub place_of : Read → Place
place_of read = in_text read.text read.token.location

-- the place, in this call if there is one
abbrev pub place_in : Option CallPlace → Place → Place
place_in (Some call) place = record place { call = Some call }
place_in None place = place

-- an error with its place
abbrev pub Fault : Type 0
Fault = PreprocessorError × Location

-- an error with its place in one of the texts
abbrev pub PlacedFault : Type 0
PlacedFault = PreprocessorError × Place

-- the error, in this call if there is one
abbrev pub fault_in : Option CallPlace → PlacedFault → PlacedFault
fault_in call fault = (fault.0, place_in call fault.1)

-- an error of this text
abbrev pub placed : ℕ → Fault → PlacedFault
placed text fault = (fault.0, in_text text fault.1)

-- the error, which can't be answered: it asks for no text
abbrev pub unasked : PlacedFault → PlacedFault
unasked fault = (fault.0, record fault.1 { asks = None })

-- the error without the text and the call
abbrev pub unplaced : PlacedFault → Fault
unplaced fault = (fault.0, fault.1.location)
