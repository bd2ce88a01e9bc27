-- The items of a text: its tokens and errors, each by the segments before it (docs/RULES.md, Characters 6, Tokens 1, 7
-- and 8). A list of the segments before a place has the nearest first.
use Rattle.std.specs.Prelude.{ℕ, Bool, true, false, ◌||◌, ◌&&◌, if◌then◌else◌, List, [], ◌∷◌, ◌++◌, reverse, Result, Ok}
use Rattle.std.specs.Prelude.{Err, count_by}
use Rattle.std.specs.List.{flat_map}
use Rattle.pp_lexer.specs.declared.token.Location.{Location}
use Rattle.pp_lexer.specs.declared.token.PreprocessorError.{PreprocessorError}
use Rattle.pp_lexer.specs.declared.lexer.item.Token.{Token}
use Rattle.pp_lexer.specs.declared.lexer.item.TokenValue.{TokenValue}
use Rattle.pp_lexer.specs.declared.lexer.item.TokenValue.TheVariants.{NewLine}
use Rattle.pp_lexer.specs.declared.lexer.char_iterator.Spot.{Spot}
use Rattle.pp_lexer.specs.declared.rules.Rules.{Rules}
use Rattle.pp_lexer.specs.Location.{nowhere}
use Rattle.pp_lexer.specs.Rules.{pp_rs}
use Rattle.pp_lexer.specs.Surroundings.{surrounded}
use Rattle.pp_lexer.specs.Segments.{Kind, blank, comment, item, Segment, segments}

-- a token, or an error with its place
abbrev pub Lexeme : Type 0
Lexeme = Result Token (PreprocessorError × Location)

-- an item, and the number of comments before it that were passed as blanks
pub record Item : Type 0 where
  pub item : Lexeme
  pub comments : ℕ

abbrev pub is_comment : Kind → Bool
is_comment comment = true
is_comment _ = false

abbrev pub is_blank_or_comment : Kind → Bool
is_blank_or_comment (item r) = false
is_blank_or_comment _ = true

abbrev pub is_newline : Kind → Bool
is_newline (item (Ok NewLine)) = true
is_newline _ = false

-- the segment directly before is a blank, a comment or a newline, or there is none
abbrev pub leading_whitespace : List Segment → Bool
leading_whitespace [] = true
leading_whitespace (g ∷ gs) = is_blank_or_comment g.kind || is_newline g.kind

-- only blanks and comments come before, back to the nearest newline or the start of the text
abbrev pub start_of_line : List Segment → Bool
start_of_line [] = true
start_of_line (g ∷ gs) = is_newline g.kind || (is_blank_or_comment g.kind && start_of_line gs)

abbrev pub comments_in : List Segment → ℕ
comments_in gs = count_by (λ g. is_comment g.kind) gs

-- the place of the segment's token
abbrev pub place_of : Segment → Location
place_of g = record { start = g.first.begin; end = g.last.end; line = g.first.line }

-- the empty place at the end of a character, on its line
abbrev pub place_after : Spot → Location
place_after last = record { start = last.end; end = last.end; line = last.line }

-- a token with its place and its flags; an error of the lexer has no place of its own
abbrev pub lexeme : List Segment → Segment → Result TokenValue PreprocessorError → Lexeme
lexeme before g (Ok v) = Ok (record {
  value = v;
  location = place_of g;
  leading_whitespace = leading_whitespace before;
  start_of_line = start_of_line before;
})
lexeme before g (Err e) = Err (e, nowhere)

-- the item of a segment; a blank or a comment has none
abbrev pub item_at : List Segment → Segment → Kind → List Item
item_at before g (item r) = record { item = lexeme before g r; comments = comments_in before } ∷ []
item_at before g _ = []

-- a newline at the end of the text, if the last item isn't a newline
abbrev pub final_newline : List Segment → List Item
final_newline [] = []
final_newline (g ∷ gs) =
    if start_of_line (g ∷ gs) then []
    else record {
      item = Ok (record {
        value = NewLine;
        location = place_after g.last;
        leading_whitespace = leading_whitespace (g ∷ gs);
        start_of_line = false;
      });
      comments = comments_in (g ∷ gs);
    } ∷ []

-- The items of a text, by its characters after the phases: those of its segments, each by the segments before it, and
-- the newline at its end, if one is added.
abbrev pub items_by : Rules → List Spot → List Item
items_by rules ss =
    flat_map (λ s. item_at s.before s.here s.here.kind) (surrounded (segments rules ss))
    ++ final_newline (reverse (segments rules ss))

-- those at pp-rs's rules
abbrev pub items_of : List Spot → List Item
items_of ss = items_by pp_rs ss

-- the place of a segment's item, an error too; a blank or a comment has none
abbrev pub places_at : Segment → Kind → List Location
places_at g blank = []
places_at g comment = []
places_at g (item r) = place_of g ∷ []

-- the place of the newline at the end of the text, if one is added
abbrev pub final_place : List Segment → List Location
final_place [] = []
final_place (g ∷ gs) = if start_of_line (g ∷ gs) then [] else place_after g.last ∷ []

-- the places of the items of a text, errors too: one place for each item
abbrev pub places_by : Rules → List Spot → List Location
places_by rules ss = flat_map (λ g. places_at g g.kind) (segments rules ss) ++ final_place (reverse (segments rules ss))

abbrev pub places_of : List Spot → List Location
places_of ss = places_by pp_rs ss

-- how many comments were passed as blanks by the end of the text
abbrev pub comments_by : Rules → List Spot → ℕ
comments_by rules ss = comments_in (segments rules ss)
