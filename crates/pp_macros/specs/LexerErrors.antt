-- The errors of the lexer in a source, each with its true place. An error item itself says (0, 0, line 1)
-- (docs/RULES.md, Tokens 7).
use Rattle.std.specs.Prelude.{◌≡◌, ℕ, Bool, true, false, List, [], ◌∷◌, Ok, Err}
use Rattle.pp_lexer.specs.Items.{Lexeme, places_by}
use Rattle.pp_lexer.specs.Lexed.{Seen}
use Rattle.pp_lexer.specs.Rules.{pp_rs}
use Rattle.pp_lexer.specs.Spots.{spots_of}
use Rattle.pp_lexer.specs.declared.rules.Rules.{Rules}
use Rattle.pp_lexer.specs.declared.token.Location.{Location}
use Rattle.pp_model.specs.Run.{items_by}
use Rattle.pp_macros.specs.Item.{Fault}

-- an error item, and its true place
pub record ErrorAt : Type 0 where
  pub item : Fault
  pub place : Location

-- the item at this place, if it is an error, before later errors
abbrev pub error_before : Lexeme → Location → List ErrorAt → List ErrorAt
error_before (Ok token) place later = later
error_before (Err fault) place later = record { item = fault; place = place } ∷ later

-- the errors among items with these places
abbrev pub errors_among : List Seen → List Location → List ErrorAt
errors_among [] places = []
errors_among (s ∷ rest) [] = []
errors_among (s ∷ rest) (place ∷ places) = error_before s.item place (errors_among rest places)

-- the errors of a text by these rules, in their order
abbrev pub lexer_errors_by : Rules → List ℕ → List ErrorAt
lexer_errors_by rules text = errors_among (items_by rules text) (places_by rules (spots_of text))

-- the same by pp-rs's rules
abbrev pub lexer_errors : List ℕ → List ErrorAt
lexer_errors text = lexer_errors_by pp_rs text

-- These are left of the errors before: some may be passed, and the others stay in their order.
pub data AreLeft : List ErrorAt → List ErrorAt → Type 0 where
  none : (before after : List ErrorAt) → before ≡ [] → after ≡ [] → AreLeft before after
  kept : (error : ErrorAt) (before ones after others : List ErrorAt)
      → before ≡ error ∷ ones
      → after ≡ error ∷ others
      → AreLeft ones others
      → AreLeft before after
  passed : (error : ErrorAt) (before ones after : List ErrorAt)
      → before ≡ error ∷ ones
      → AreLeft ones after
      → AreLeft before after

-- These errors of the lexer are left of those before. If the rules pass errors in dead text and on lines that are
-- skipped, some may be gone; otherwise none is.
abbrev pub PassesErrors : Bool → List ErrorAt → List ErrorAt → Type 0
PassesErrors false before after = after ≡ before
PassesErrors true before after = AreLeft before after
