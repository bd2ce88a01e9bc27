-- A lexer in the midst of a text: those facts of what it has passed on which the items to come depend.
use Rattle.std.specs.Prelude.{◌≡◌, Bool, true, false, ◌||◌, ◌⊎◌, IsTrue, IsErr, if◌then◌else◌, List, [], ◌∷◌, ◌++◌}
use Rattle.std.specs.Prelude.{Option, Result, Ok, Err, OnOk}
use Rattle.std.specs.List.{list_any}
use Rattle.std.specs.declared.alloc.AllocError.{AllocError}
use Rattle.pp_lexer.specs.declared.token.PreprocessorError.{PreprocessorError}
use Rattle.pp_lexer.specs.declared.lexer.item.TokenValue.{TokenValue}
use Rattle.pp_lexer.specs.declared.lexer.item.TokenValue.TheVariants.{NewLine}
use Rattle.pp_lexer.specs.declared.lexer.char_iterator.Spot.{Spot}
use Rattle.pp_lexer.specs.declared.lexer.Flags.{Flags}
use Rattle.pp_lexer.specs.declared.lexer.LexerState.{LexerState}
use Rattle.pp_lexer.specs.declared.rules.Rules.{Rules}
use Rattle.pp_lexer.specs.declared.token.Location.{Location}
use Rattle.pp_lexer.specs.Location.{nowhere}
use Rattle.pp_lexer.specs.Reading.{Reading}
use Rattle.pp_lexer.specs.Segments.{Kind, blank, comment, item, Segment, segments}
use Rattle.pp_lexer.specs.Items.{Lexeme, is_comment, is_newline, place_after, places_at}
use Rattle.pp_lexer.specs.Lexed.{Seen, Lexed, first_item, after_first_item, comments_before, first_takes_memory}
use Rattle.pp_lexer.specs.Lexed.{over_after_first, first_place, places_after_first}

abbrev pub is_newline_result : Result TokenValue PreprocessorError → Bool
is_newline_result r = is_newline (item r)

-- the flags after a segment
abbrev pub passed : Flags → Kind → Flags
passed f blank = record { leading_whitespace = true; start_of_line = f.start_of_line; had_comments = f.had_comments }
passed f comment = record { leading_whitespace = true; start_of_line = f.start_of_line; had_comments = true }
passed f (item r) =
    record {
      leading_whitespace = is_newline_result r;
      start_of_line = is_newline_result r;
      had_comments = f.had_comments;
    }

abbrev pub lexeme_seen : Flags → Spot → Spot → Result TokenValue PreprocessorError → Lexeme
lexeme_seen f first last (Ok v) = Ok (record {
  value = v;
  location = record { start = first.begin; end = last.end; line = first.line };
  leading_whitespace = f.leading_whitespace;
  start_of_line = f.start_of_line;
})
lexeme_seen f first last (Err e) = Err (e, nowhere)

abbrev pub item_seen : Flags → Segment → Kind → List Seen
item_seen f g blank = []
item_seen f g comment = []
item_seen f g (item r) = record { item = lexeme_seen f g.first g.last r; had_comments = f.had_comments } ∷ []

abbrev pub newline_seen : Flags → Spot → List Seen
newline_seen f last =
    if f.start_of_line then []
    else record {
      item = Ok (record {
        value = NewLine;
        location = record { start = last.end; end = last.end; line = last.line };
        leading_whitespace = f.leading_whitespace;
        start_of_line = false;
      });
      had_comments = f.had_comments;
    } ∷ []

-- the items of the segments, after this character
abbrev pub seen_from : Flags → Spot → List Segment → List Seen
seen_from f last [] = newline_seen f last
seen_from f last (g ∷ gs) = item_seen f g g.kind ++ seen_from (passed f g.kind) g.last gs

-- the items to come
abbrev pub seen_of : Rules → Flags → Reading → List Seen
seen_of rules f r = seen_from f r.last (segments rules r.rest)

-- whether comments will have been passed at the end
abbrev pub comments_at_end : Rules → Flags → Reading → Bool
comments_at_end rules f r = f.had_comments || list_any (λ g. is_comment g.kind) (segments rules r.rest)

abbrev pub newline_places : Flags → Spot → List Location
newline_places f last = if f.start_of_line then [] else place_after last ∷ []

-- the places of the items of the segments, after this character
abbrev pub places_from : Flags → Spot → List Segment → List Location
places_from f last [] = newline_places f last
places_from f last (g ∷ gs) = places_at g g.kind ++ places_from (passed f g.kind) g.last gs

-- the places of the items to come
abbrev pub places_left : Rules → Flags → Reading → List Location
places_left rules f r = places_from f r.last (segments rules r.rest)

-- a lexer in the midst of a text
abbrev pub lexed : Rules → Flags → Reading → Location → Bool → Lexed
lexed rules f r place spent = record {
  rest = seen_of rules f r;
  had_comments = f.had_comments;
  at_end = comments_at_end rules f r;
  spent = spent;
  over = f.start_of_line;
  place = place;
  places = places_left rules f r;
  rules = rules;
}

-- the same items are to come by any rules, and none was taken
pub record SeesSame (old new : LexerState) : Type 0 where
  pub items : (rules : Rules) → seen_of rules new.flags new.inner ≡ seen_of rules old.flags old.inner
  pub at_end : (rules : Rules) → comments_at_end rules new.flags new.inner ≡ comments_at_end rules old.flags old.inner
  pub places : (rules : Rules) → places_left rules new.flags new.inner ≡ places_left rules old.flags old.inner
  pub over : new.flags.start_of_line ≡ old.flags.start_of_line
  pub place : new.place ≡ old.place

-- the place of the first item was noted, or the end was met
pub record IsPlaced (rules : Rules) (f : Flags) (r : Reading) (old : Location) (g : Flags) (q : Reading)
    (new : Location) : Type 0 where
  pub place : new ≡ first_place (places_left rules f r) old
  pub rest : places_left rules g q ≡ places_after_first (places_left rules f r)

-- the first item needs memory, and it ran out
pub record IsLexRefused (rules : Rules) (f : Flags) (r : Reading) (g : Flags)
    (answer : Result (Option Lexeme) AllocError) : Type 0 where
  pub value : IsErr answer
  pub needed : IsTrue (first_takes_memory (seen_of rules f r))
  pub comments : g.had_comments ≡ comments_before (seen_of rules f r) (comments_at_end rules f r)

-- the first item was taken, or the end was met
pub record IsLexTaken (rules : Rules) (f : Flags) (r : Reading) (g : Flags) (q : Reading)
    (answer : Result (Option Lexeme) AllocError) : Type 0 where
  pub value : answer ≡ Ok (first_item (seen_of rules f r))
  pub rest : seen_of rules g q ≡ after_first_item (seen_of rules f r)
  pub comments : g.had_comments ≡ comments_before (seen_of rules f r) (comments_at_end rules f r)
  pub at_end : comments_at_end rules g q ≡ comments_at_end rules f r
  pub over : g.start_of_line ≡ over_after_first (seen_of rules f r) f.start_of_line

abbrev pub IsLexed : Rules → Flags → Reading → Result (Option Lexeme) AllocError → Flags → Reading → Type 0
IsLexed rules f r answer g q = IsLexRefused rules f r g answer ⊎ IsLexTaken rules f r g q answer

-- the first item was read with its place, or the end was met
pub record IsRead (rules : Rules) (old : LexerState) (answer : Result (Option Lexeme) AllocError)
    (new : LexerState) : Type 0 where
  pub lexed : IsLexed rules old.flags old.inner answer new.flags new.inner
  pub placed : OnOk answer (IsPlaced rules old.flags old.inner old.place new.flags new.inner new.place)
