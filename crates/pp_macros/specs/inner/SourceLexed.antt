-- The state of a source's lexer.
use Rattle.std.specs.Prelude.{◌≡◌, Bool, false, List, [], ◌∷◌, Option, Some, None, Result, Ok, Err, ⊤}
use Rattle.pp_lexer.specs.Lexed.{Seen, Lexed}
use Rattle.pp_lexer.specs.declared.rules.Rules.{Rules}
use Rattle.pp_lexer.specs.declared.token.Location.{Location}
use Rattle.pp_lexer.specs.declared.lexer.item.Token.{Token as LexerToken}
use Rattle.pp_macros.specs.declared.halt.Halt.{Halt}
use Rattle.pp_macros.specs.inner.Unreported.{Unreported, unreported}

-- the items to come, with their places; whether the line before them is over; the place of an error that was read and
-- not reported; whether comments were passed so far, and whether any will have been at the end; whether memory ran out;
-- and the rules
pub record SourceLexed : Type 0 where
  pub rest : List Seen
  pub places : List Location
  pub over : Bool
  pub error_place : Option Location
  pub had_comments : Bool
  pub at_end : Bool
  pub spent : Bool
  pub rules : Rules

-- a lexer from which nothing was read
abbrev pub beginning : Lexed → SourceLexed
beginning l =
    record {
      rest = l.rest;
      places = l.places;
      over = l.over;
      error_place = None;
      had_comments = l.had_comments;
      at_end = l.at_end;
      spent = false;
      rules = l.rules;
    }

-- the errors that were not reported yet
abbrev pub unreported_at : SourceLexed → Unreported
unreported_at l = unreported l.rest l.places l.error_place

-- each item has a place, and there are no more places
abbrev pub HavePlaces : List Seen → List Location → Type 0
HavePlaces [] [] = ⊤
HavePlaces [] (place ∷ places) = ⊥
HavePlaces (s ∷ rest) [] = ⊥
HavePlaces (s ∷ rest) (place ∷ places) = HavePlaces rest places

-- the end leaves the places as they are
abbrev pub EndKeepsPlaces : Result (Option LexerToken) Halt → SourceLexed → SourceLexed → Type 0
EndKeepsPlaces (Ok None) old new = (new.places ≡ old.places) × (new.error_place ≡ old.error_place)
EndKeepsPlaces (Ok (Some token)) old new = ⊤
EndKeepsPlaces (Err halt) old new = ⊤
