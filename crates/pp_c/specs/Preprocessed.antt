-- What a call of `pp_preprocess`, `pp_preprocess_with` or `pp_preprocess_including` gives: the items of a run of the
-- preprocessor.
use Rattle.std.specs.Prelude.{◌≡◌, ℕ, ◌+◌, ◌<◌, ◌≤◌, ◌⊎◌, Bool, true, false, if◌then◌else◌, List, [], ◌∷◌, ◌++◌}
use Rattle.std.specs.Prelude.{length, ◌≢◌}
use Rattle.std.specs.Prelude.{Option, Some, None, MatchOption, Err, map, ⊤}
use Rattle.std.specs.List.{flat_map, count_by, AllByRecursion as Each}
use Rattle.pp_macros.specs.LexerErrors.{ErrorAt, lexer_errors_by, PassesErrors}
use Rattle.pp_model.specs.Places.{Fault}
use Rattle.pp_model.specs.Run.{Call, add_define, include, next}
use Rattle.pp_model.specs.RunToEnd.{IsRunToEndBy}
use Rattle.pp_model.specs.declared.call.Reply.{Reply}
use Rattle.pp_model.specs.declared.call.Reply.TheVariants as reply
use Rattle.pp_model.specs.declared.outcome.Outcome.{Outcome}
use Rattle.pp_model.specs.declared.outcome.Outcome.TheVariants as outcome
use Rattle.pp_rs.specs.Held.{HoldsOrdinary}
use Rattle.pp_rs.specs.Including.{IsInserted}
use Rattle.pp_rs.specs.Preprocessing.{Asks}
use Rattle.pp_rs.specs.Rules.{pp_rs}
use Rattle.pp_rs.specs.declared.rules.Rules.{Rules}
use Rattle.pp_rs.specs.declared.token.Location.{Location}
use Rattle.pp_rs.specs.declared.token.Token.{Token}
use Rattle.pp_c.specs.Calls.{calls_from}
use Rattle.pp_c.specs.Ends.{HasRoom}
use Rattle.pp_c.specs.Entries.{Entry, items_from, texts_of, room_of, put_over}
use Rattle.pp_c.specs.Options.{rules_in, most_in, asking_rules_in, most_asking_in}
use Rattle.pp_c.specs.Tokens.{token_entries, error_entries, asking_entries}
use Rattle.pp_c.specs.declared.items.Definition.{Definition}
use Rattle.pp_c.specs.declared.items.Item.{Item}
use Rattle.pp_c.specs.declared.items.Sizes.{Sizes}
use Rattle.pp_c.specs.declared.options.Options.{Options}

-- an item of the preprocessor: a token; or an error with its true place in the source and, if it is an `#include` line
-- that asks for its text, the rest of the line
pub data Given : Type 0 where
  token : Token → Given
  error : Fault → Location → Option Location → Given

-- the entries of an item
abbrev pub given_entries : Given → List Entry
given_entries (token t) = token_entries t.location t.value
given_entries (error fault place None) = error_entries fault.0 fault.1 place
given_entries (error fault place (Some rest)) = asking_entries fault.0 fault.1 place rest

abbrev pub entries_of : List Given → List Entry
entries_of given = flat_map given_entries given

-- the item is an `#include` line that asks for its text
abbrev pub asks : Given → Bool
asks (error fault place (Some rest)) = true
asks _ = false

-- how many such lines there are
abbrev pub lines_in : List Given → ℕ
lines_in given = count_by asks given

-- how often `next` was called for these items: once more if the end was reached
abbrev pub times_asked : Bool → List Given → ℕ
times_asked has_ended given = length given + (if has_ended then 1 else 0)

-- the answers of `next`: these items, and then the end, if it was reached, which is `None`
abbrev pub answers_of : List Given → Bool → List (Option Given)
answers_of given false = map Some given
answers_of given true = map Some given ++ None ∷ []

-- the reply of a run to the call of `next` that has this answer
abbrev pub answered_outcome : Option Given → Outcome
answered_outcome None = outcome.End
answered_outcome (Some (token t)) = outcome.Token t
answered_outcome (Some (error fault place None)) = outcome.Fault fault
answered_outcome (Some (error fault place (Some rest))) = outcome.Include (record { word = fault.1; rest = rest })

-- those to all calls of `next` that gave these items, and then the end if it was reached
abbrev pub outcomes_of : Bool → List Given → List Outcome
outcomes_of has_ended given = map answered_outcome (answers_of given has_ended)

-- the replies to `next`, without those to other calls
abbrev pub replies_to_next : List Reply → List Outcome
replies_to_next [] = []
replies_to_next (reply.Given o ∷ replies) = o ∷ replies_to_next replies
replies_to_next (reply.Added ∷ replies) = replies_to_next replies
replies_to_next (reply.Refused fault ∷ replies) = replies_to_next replies
replies_to_next (reply.Included ∷ replies) = replies_to_next replies
replies_to_next (reply.TooDeep ∷ replies) = replies_to_next replies

-- The places of all errors that these calls give, also after the first, if the errors of the lexer in one list were
-- not given before, and those in another were not given after. If the rules pass errors in dead text and on lines
-- that are skipped, some may be gone before each item, and at the end. At the end none is left. An error is the first
-- of the lexer's that are left, at its true place, or any error at the place in its item. Those of a text come at its
-- call.
pub data ErrorsStand (rules : Rules) : List Call → List (Option Given) → List ErrorAt → List ErrorAt → Type 0 where
  none : (calls : List Call) (answers : List (Option Given)) (before after : List ErrorAt)
      → calls ≡ []
      → answers ≡ []
      → after ≡ before
      → ErrorsStand rules calls answers before after
  at_end : (calls others : List Call) (answers rest : List (Option Given)) (before after : List ErrorAt)
      → calls ≡ next ∷ others
      → answers ≡ None ∷ rest
      → PassesErrors rules.passes_dead_errors before []
      → ErrorsStand rules others rest [] after
      → ErrorsStand rules calls answers before after
  after_definition : (name content : List ℕ) (calls others : List Call) (answers : List (Option Given))
      (before after : List ErrorAt)
      → calls ≡ add_define name content ∷ others
      → ErrorsStand rules others answers before after
      → ErrorsStand rules calls answers before after
  after_text : (text : List ℕ) (calls others : List Call) (answers : List (Option Given))
      (before left after : List ErrorAt)
      → calls ≡ include text ∷ others
      → IsInserted (lexer_errors_by rules text) before left
      → ErrorsStand rules others answers left after
      → ErrorsStand rules calls answers before after
  after_token : (t : Token) (calls others : List Call) (answers rest : List (Option Given))
      (before left after : List ErrorAt)
      → calls ≡ next ∷ others
      → answers ≡ Some (token t) ∷ rest
      → PassesErrors rules.passes_dead_errors before left
      → ErrorsStand rules others rest left after
      → ErrorsStand rules calls answers before after
  of_lexer : (fault : Fault) (place : Location) (asked : Option Location) (calls others : List Call)
      (answers rest : List (Option Given)) (before left after : List ErrorAt)
      → calls ≡ next ∷ others
      → answers ≡ Some (error fault place asked) ∷ rest
      → PassesErrors rules.passes_dead_errors before (record { item = fault; place = place } ∷ left)
      → ErrorsStand rules others rest left after
      → ErrorsStand rules calls answers before after
  of_its_own : (fault : Fault) (asked : Option Location) (calls others : List Call) (answers rest : List (Option Given))
      (before left after : List ErrorAt)
      → calls ≡ next ∷ others
      → answers ≡ Some (error fault fault.1 asked) ∷ rest
      → PassesErrors rules.passes_dead_errors before left
      → ErrorsStand rules others rest left after
      → ErrorsStand rules calls answers before after

-- the tokens inside a directive's item are ordinary, and only an unknown directive asks for a text, if the rules say so
abbrev pub IsPossibleGiven : Rules → Given → Type 0
IsPossibleGiven rules (token t) = HoldsOrdinary t.value
IsPossibleGiven rules (error fault place asked) = Asks rules (Some (Err fault)) asked

-- the same of an answer; of the end it says nothing
abbrev pub IsPossibleAnswer : Rules → Option Given → Type 0
IsPossibleAnswer rules answer = MatchOption answer ⊤ (IsPossibleGiven rules)

-- These calls of a preprocessor of a source by these rules have these answers of `next`, of which `None` is the end.
-- They are those of the run, those after errors too. At the end none of the lexer's errors is left.
pub record AreAnswersBy (rules : Rules) (source : List ℕ) (calls : List Call) (answers : List (Option Given))
    : Type 0 where
  pub replies : List Reply
  pub run : IsRunToEndBy rules source calls replies
  pub gives : replies_to_next replies ≡ map answered_outcome answers
  pub left : List ErrorAt
  pub places : ErrorsStand rules calls answers (lexer_errors_by rules source) left
  pub holds : Each (IsPossibleAnswer rules) answers

-- These are the items of a source by these rules, with each definition added, and if the call takes texts each text
-- included, when its number of items was given or no further item is: all of them, if the end was reached, and
-- otherwise those at the front.
abbrev pub AreItemsBy : Rules → Bool → List ℕ → List ℕ → List Definition → Bool → List Given → Type 0
AreItemsBy rules texts source words definitions has_ended given =
    AreAnswersBy rules source (calls_from texts words (times_asked has_ended given) 0 definitions)
    (answers_of given has_ended)

-- a call that stops after `most` items, or at the end, gave this many and reached the end or not
abbrev pub StopsAt : Option ℕ → Bool → ℕ → Type 0
StopsAt None true count = ⊤
StopsAt None false count = ⊥
StopsAt (Some most) true count = count < most
StopsAt (Some most) false count = count ≡ most

-- The entries take this much room. If there is room for all, their items are written over the front of the memory for
-- items and their texts over the front of that for texts, and the rest of both stays.
pub record AreWritten (entries : List Entry) (items items_after : List Item) (texts texts_after : List ℕ)
    (sizes : Sizes) : Type 0 where
  pub room : sizes ≡ room_of entries
  pub items_are : HasRoom (length items) (length texts) sizes
      → items_after ≡ put_over (items_from 0 entries) items
  pub texts_are : HasRoom (length items) (length texts) sizes
      → texts_after ≡ put_over (texts_of entries) texts

-- The items of a source by these rules are written: `most`, or all if there are fewer or no number is given.
pub record PreprocessesBy (rules : Rules) (most : Option ℕ) (has_ended : Bool) (source words : List ℕ)
    (definitions : List Definition) (items items_after : List Item) (texts texts_after : List ℕ)
    (sizes : Sizes) : Type 0 where
  pub given : List Given
  pub are_items : AreItemsBy rules false source words definitions has_ended given
  pub stops : StopsAt most has_ended (length given)
  pub written : AreWritten (entries_of given) items items_after texts texts_after sizes

-- all items of a source by pp-rs's rules are written
abbrev pub Preprocesses : List ℕ → List ℕ → List Definition
    → List Item → List Item → List ℕ → List ℕ → Sizes → Type 0
Preprocesses = PreprocessesBy pp_rs None true

-- the answers of `pp_preprocess_with` with which items are there, or would be with more room
abbrev pub HasItems : ℕ → Type 0
HasItems answer = (answer < 2) ⊎ (answer ≡ 7)

-- the items that were asked for are written, and the answer says whether the end was reached
pub record AnswersBy (rules : Rules) (most : Option ℕ) (answer : ℕ) (source words : List ℕ)
    (definitions : List Definition) (items items_after : List Item) (texts texts_after : List ℕ)
    (sizes : Sizes) : Type 0 where
  pub has_ended : Bool
  pub done : answer ≡ 0 → has_ended ≡ true
  pub partial : answer ≡ 7 → has_ended ≡ false
  pub preprocesses : PreprocessesBy rules most has_ended source words definitions
      items items_after texts texts_after sizes

-- the same for the options of a call
abbrev pub PreprocessesWith : Options → ℕ → List ℕ → List ℕ → List Definition
    → List Item → List Item → List ℕ → List ℕ → Sizes → Type 0
PreprocessesWith options = AnswersBy (rules_in options) (most_in options)

-- the last item is an `#include` line that asks for its text, and this many are before it
pub record EndsAtLine (before : ℕ) (given : List Given) : Type 0 where
  pub front : List Given
  pub line : Given
  pub is : given ≡ front ++ line ∷ []
  pub asking : asks line ≡ true
  pub lines : lines_in front ≡ before

-- A call that stops after `most` items, after `passed` lines that ask for texts at the next one, or at the end, ends
-- with these items, and with this answer if there is room.
pub record StopsAsking (most passed answer : ℕ) (has_ended : Bool) (given : List Given) : Type 0 where
  pub stops : (answer ≡ 0) ⊎ (answer ≡ 7) ⊎ (answer ≡ 9)
  pub done : answer ≡ 0 → (has_ended ≡ true) × (length given < most) × (lines_in given ≤ passed)
  pub partial : answer ≡ 7 → (has_ended ≡ false) × (length given ≡ most) × (lines_in given ≤ passed)
  pub asking : answer ≡ 9 → (has_ended ≡ false) × (length given ≤ most) × EndsAtLine passed given

-- the answers of `pp_preprocess_including` with which items are there, or would be with more room
abbrev pub HasAskedItems : ℕ → Type 0
HasAskedItems answer = HasItems answer ⊎ (answer ≡ 9)

-- the items that were asked for are written, with each text included, and the answer says where they end
pub record Includes (options : Options) (passed answer : ℕ) (source words : List ℕ) (definitions : List Definition)
    (items items_after : List Item) (texts texts_after : List ℕ) (sizes : Sizes) : Type 0 where
  pub given : List Given
  pub has_ended : Bool
  pub are_items : AreItemsBy (asking_rules_in options) true source words definitions has_ended given
  pub with_room : ℕ
  pub same : answer ≢ 1 → with_room ≡ answer
  pub stops : StopsAsking (most_asking_in options) passed with_room has_ended given
  pub written : AreWritten (entries_of given) items items_after texts texts_after sizes
