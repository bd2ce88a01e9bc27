-- The state of a lexer, and what a call of `next` gives.
use Rattle.std.specs.Prelude.{◌≡◌, Bool, true, false, ◌⊎◌, IsTrue, nat_lt, List, [], ◌∷◌, map, Option, Some, None, Ok}
use Rattle.std.specs.Prelude.{Err, MatchBool}
use Rattle.pp_lexer.specs.declared.lexer.char_iterator.Spot.{Spot}
use Rattle.pp_lexer.specs.declared.rules.Rules.{Rules}
use Rattle.pp_lexer.specs.declared.token.Location.{Location}
use Rattle.pp_lexer.specs.LexerToken.{holds_memory}
use Rattle.pp_lexer.specs.PreprocessorError.{out_of_memory}
use Rattle.pp_lexer.specs.Location.{nowhere}
use Rattle.pp_lexer.specs.Items.{Lexeme, Item, is_newline, items_by, comments_by, places_by}
use Rattle.pp_lexer.specs.Rules.{pp_rs}
use Rattle.pp_lexer.specs.Segments as segments

-- an item, and whether a comment before it was passed as a blank
pub record Seen : Type 0 where
  pub item : Lexeme
  pub had_comments : Bool

-- The items to come; whether comments were passed so far, and whether any will have been at the end; whether memory ran
-- out; whether the item given last ended its line, or none was given; its place, and the places of those to come; and
-- the rules.
pub record Lexed : Type 0 where
  pub rest : List Seen
  pub had_comments : Bool
  pub at_end : Bool
  pub spent : Bool
  pub over : Bool
  pub place : Location
  pub places : List Location
  pub rules : Rules

abbrev pub seen : Item → Seen
seen i = record { item = i.item; had_comments = nat_lt 0 i.comments }

-- a lexer at the start of a text
abbrev pub start_by : Rules → List Spot → Lexed
start_by rules ss =
    record {
      rest = map seen (items_by rules ss);
      had_comments = false;
      at_end = nat_lt 0 (comments_by rules ss);
      spent = false;
      over = true;
      place = nowhere;
      places = places_by rules ss;
      rules = rules;
    }

-- the same at pp-rs's rules
abbrev pub start_of : List Spot → Lexed
start_of ss = start_by pp_rs ss

-- the first item to come
abbrev pub first_item : List Seen → Option Lexeme
first_item [] = None
first_item (s ∷ ss) = Some s.item

-- the items after it
abbrev pub after_first_item : List Seen → List Seen
after_first_item [] = []
after_first_item (s ∷ ss) = ss

-- whether comments were passed before the first item to come, or before the end if there is none
abbrev pub comments_before : List Seen → Bool → Bool
comments_before [] at_end = at_end
comments_before (s ∷ ss) at_end = s.had_comments

-- the item is a newline
abbrev pub is_newline_lexeme : Lexeme → Bool
is_newline_lexeme (Ok token) = is_newline (segments.item (Ok token.value))
is_newline_lexeme (Err fault) = false

-- whether the first item to come ends its line; if there is none, whether the item given last did
abbrev pub over_after_first : List Seen → Bool → Bool
over_after_first [] over = over
over_after_first (s ∷ ss) over = is_newline_lexeme s.item

-- the place of the first item to come; if there is none, that of the item given last
abbrev pub first_place : List Location → Location → Location
first_place [] last = last
first_place (place ∷ places) last = place

-- the places of the items after it
abbrev pub places_after_first : List Location → List Location
places_after_first [] = []
places_after_first (place ∷ places) = places

-- the lexer once the first item is taken, or its end is met
abbrev pub after_first : Lexed → Lexed
after_first l = record l {
  rest = after_first_item l.rest;
  had_comments = comments_before l.rest l.at_end;
  over = over_after_first l.rest l.over;
  place = first_place l.places l.place;
  places = places_after_first l.places;
}

-- identifiers and floats are kept in memory, and nothing else is
abbrev pub lexeme_takes_memory : Lexeme → Bool
lexeme_takes_memory (Ok t) = holds_memory t.value
lexeme_takes_memory (Err e) = false

-- the first item to come takes memory; the end takes none
abbrev pub first_takes_memory : List Seen → Bool
first_takes_memory [] = false
first_takes_memory (s ∷ ss) = lexeme_takes_memory s.item

-- The first item to come takes memory, and the allocation failed: `next` gives `OutOfMemory`, and nothing more from
-- then on.
pub record IsRefused (old : Lexed) (answer : Option Lexeme) (new : Lexed) : Type 0 where
  pub takes_memory : IsTrue (first_takes_memory old.rest)
  pub item : answer ≡ Some (Err out_of_memory)
  pub comments : new.had_comments ≡ comments_before old.rest old.at_end
  pub spent : new.spent ≡ true

-- `next` gives the first item to come, or the end
pub record IsGiven (old : Lexed) (answer : Option Lexeme) (new : Lexed) : Type 0 where
  pub item : answer ≡ first_item old.rest
  pub state : new ≡ after_first old

-- one call of `next`: a spent lexer gives nothing and stays as it is
abbrev pub IsNext : Lexed → Option Lexeme → Lexed → Type 0
IsNext old answer new =
    MatchBool old.spent ((answer ≡ None) × (new ≡ old)) (IsRefused old answer new ⊎ IsGiven old answer new)
