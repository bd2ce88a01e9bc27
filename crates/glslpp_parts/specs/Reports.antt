-- Errors as compilers print them.
use Rattle.std.specs.Prelude.{◌≡◌, ◌⊎◌, ℕ, false, List, [], ◌∷◌, ◌++◌, Option, Some, None, codes}
use Rattle.std.specs.Prelude.{option_map, string_bytes}
use Rattle.std.specs.Fmt.{decimal}
use Rattle.glslpp_parts.specs.declared.report.Style.{Style}
use Rattle.glslpp_parts.specs.declared.report.Style.TheVariants.{Plain, Coloured, Json}
use Rattle.glslpp_parts.specs.declared.diagnostic.Diagnostic.{Diagnostic}
use Rattle.glslpp_parts.specs.declared.diagnostic.Severity.{Severity}
use Rattle.glslpp_parts.specs.declared.diagnostic.Site.{Site}
use Rattle.glslpp_parts.specs.declared.diagnostic.Site.TheVariants.{InSource, OnCommandLine, InFile}
use Rattle.glslpp_parts.specs.declared.diagnostic.Severity.TheVariants.{Error, Warning, Note}
use Rattle.glslpp_parts.specs.declared.place.Place.{Place}
use Rattle.glslpp_parts.specs.Output.{IsItem}

-- a terminal reads ESC, byte 27, and `[` with a code as a colour
abbrev pub bold : Style → List ℕ
bold Plain = []
bold Json = []
bold Coloured = 27 ∷ codes "[1m"

abbrev pub colour : Style → Severity → List ℕ
colour Plain severity = []
colour Json severity = []
colour Coloured Error = 27 ∷ codes "[1;31m"
colour Coloured Warning = 27 ∷ codes "[1;35m"
colour Coloured Note = 27 ∷ codes "[1;36m"

abbrev pub ended : Style → List ℕ
ended Plain = []
ended Json = []
ended Coloured = 27 ∷ codes "[0m"

abbrev pub name_of : Severity → List ℕ
name_of Error = codes "error"
name_of Warning = codes "warning"
name_of Note = codes "note"

-- `error: `, `warning: ` or `note: `, in its colour
abbrev pub severity_text : Style → Severity → List ℕ
severity_text style severity = colour style severity ++ name_of severity ++ codes ": " ++ ended style

-- the number of the text to which a message points, if it points into a file
abbrev pub text_of_site : Site → Option ℕ
text_of_site (InSource line column place) = Some place.number
text_of_site (OnCommandLine place) = None
text_of_site InFile = None

-- the line of that file
abbrev pub line_of_site : Site → Option ℕ
line_of_site (InSource line column place) = Some line
line_of_site (OnCommandLine place) = None
line_of_site InFile = None

-- the byte offset in it
abbrev pub start_of_site : Site → Option ℕ
start_of_site (InSource line column place) = Some place.start
start_of_site (OnCommandLine place) = None
start_of_site InFile = None

-- the place to which a message points, with its line
abbrev pub place_of_site : Site → Option Place
place_of_site (InSource line column place) = Some place
place_of_site (OnCommandLine place) = place
place_of_site InFile = None

-- the text at that place
abbrev pub pointed_text : Site → Option (List ℕ)
pointed_text site = option_map (λ place. place.here.now) (place_of_site site)

-- the number of the text to which a message points and the byte offset in it, if it points into a file
abbrev pub point_of_site : Site → Option (ℕ × ℕ)
point_of_site (InSource line column place) = Some (place.number, place.start)
point_of_site (OnCommandLine place) = None
point_of_site InFile = None

-- the name of the file to which a message points, which is the source's if it points into no file
abbrev pub file_of_site : List ℕ → Site → List ℕ
file_of_site source (InSource line column place) = place.name.now
file_of_site source (OnCommandLine place) = source
file_of_site source InFile = source

-- how a place of a file is named: `<command line>: ` in a definition of the command line, and otherwise `FILE: ` or
-- `FILE:LINE:COLUMN: `
abbrev pub IsPlace : List ℕ → List ℕ → Type 0
IsPlace file place = (place ≡ codes "<command line>: ") ⊎ ((place ≡ file ++ codes ": ")
    ⊎ ((line : ℕ) × ((column : ℕ)
    × (place ≡ file ++ codes ":" ++ decimal line ++ codes ":" ++ decimal column ++ codes ": "))))

-- with a report at the end, which begins with a place, how grave it is, as `error: `, and the message, on a line that
-- ends
pub record IsReported (style : Style) (file : List ℕ) (severity : Severity) (message old new : List ℕ) : Type 0 where
  pub place : List ℕ
  pub more : List ℕ
  pub after : List ℕ
  pub is : IsPlace file place
  pub text : new ≡ old ++ bold style ++ place ++ severity_text style severity ++ message ++ more ++ 10 ∷ after

-- with a message at the end: a report as text, or an object of JSON on a line of its own
abbrev pub IsSaid : Style → List ℕ → Severity → List ℕ → List ℕ → List ℕ → Type 0
IsSaid Plain file severity message old new = IsReported Plain file severity message old new
IsSaid Coloured file severity message old new = IsReported Coloured file severity message old new
IsSaid Json file severity message old new = IsItem old new

-- the message for an error of the library: an error, whose text begins with this sentence, unless the source shows the
-- cause, and the message says it
pub record IsErrorMessage (sentence : List ℕ) (diagnostic : Diagnostic) : Type 0 where
  pub begins : diagnostic.is_of_cause ≡ false → (more : List ℕ) × (string_bytes diagnostic.message ≡ sentence ++ more)
  pub severity : diagnostic.severity ≡ Error
