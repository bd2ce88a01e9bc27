-- One call of `append_all`, `preprocess_all` or `drain` (docs/RULES.md, "Calls").
use Rattle.std.specs.Prelude.{◌≡◌, Bool, true, false, List, [], ◌∷◌, ◌++◌, Option, Some, None, Ok, Err, MatchBool, All}
use Rattle.pp_lexer.specs.PreprocessorError.{out_of_memory}
use Rattle.pp_lexer.specs.declared.rules.Rules.{Rules}
use Rattle.pp_lexer.specs.declared.token.Token.{Token}
use Rattle.pp_model.specs.declared.outcome.Outcome.TheVariants as outcome
use Rattle.pp_rs.specs.Comes.{State, Comes}
use Rattle.pp_macros.specs.Item.{Fault, Item}
use Rattle.pp_rs.specs.Kept.{Preprocessing, Stands, is_spent, most_items, errors_left, error_place, rules_of}
use Rattle.pp_macros.specs.Held.{ItemHoldsOrdinary}
use Rattle.pp_macros.specs.LexerErrors.{ErrorAt, PassesErrors}
use Rattle.pp_lexer.specs.declared.token.Location.{Location}
use Rattle.pp_rs.specs.Preprocessing.{Asks, IsNextItem, outcome_of}

-- These items come next, one after another, errors and what follows them too. An error may be that of an `#include`
-- line that asks for its text.
abbrev pub ItemsCome : Rules → State → List Item → State → Type 0
ItemsCome rules state [] after = after ≡ state
ItemsCome rules state (item ∷ rest) after =
    (asked : Option Location)
    × (next : State)
    × Asks rules (Some item) asked
    × Comes state (outcome_of (Some item) asked) next
    × ItemsCome rules next rest after

-- These are all items that come from the state: after them comes the end.
abbrev pub AreItemsFrom : Rules → State → List Item → Type 0
AreItemsFrom rules state items =
    (last : State) × ItemsCome rules state items last × (after : State) × Comes last outcome.End after

-- all items, or none if memory had run out before
abbrev pub AreItemsOf : Preprocessing → List Item → Type 0
AreItemsOf old items =
    MatchBool (is_spent old) (items ≡ [])
    ((state : State) → Stands old state → AreItemsFrom (rules_of old) state items)

-- How items report the errors of the lexer. An error item is either the first error of the lexer that was not reported
-- yet, with its true place, or another error, which is at its own place. Errors of dead text are passed, if the rules
-- say so. `left` and `after` are the errors that were not reported before and after the items, `place` and `last` the
-- place of the last error before and after them.
pub data Reports (passes : Bool)
    : List Item → List ErrorAt → Location → List ErrorAt → Location → Type 0 where
  none : (items : List Item) (left after : List ErrorAt) (place last : Location)
      → items ≡ []
      → after ≡ left
      → last ≡ place
      → Reports passes items left place after last
  passed : (items : List Item) (left others after : List ErrorAt) (place last : Location)
      → PassesErrors passes left others
      → Reports passes items others place after last
      → Reports passes items left place after last
  token : (first : Token) (rest items : List Item) (left after : List ErrorAt) (place last : Location)
      → Reports passes rest left place after last
      → items ≡ Ok first ∷ rest
      → Reports passes items left place after last
  of_lexer : (first : Fault) (there : Location) (rest items : List Item) (others left after : List ErrorAt)
      (place last : Location)
      → left ≡ record { item = first; place = there } ∷ others
      → Reports passes rest others there after last
      → items ≡ Err first ∷ rest
      → Reports passes items left place after last
  of_its_own : (first : Fault) (rest items : List Item) (left after : List ErrorAt) (place last : Location)
      → Reports passes rest left first.1 after last
      → items ≡ Err first ∷ rest
      → Reports passes items left place after last

-- the same, for the preprocessor before the items and after them
abbrev pub AreReported : Preprocessing → List Item → Preprocessing → Type 0
AreReported old items new =
    Reports (rules_of old).passes_dead_errors items (errors_left old) (error_place old) (errors_left new)
    (error_place new)

-- These items came from the state, and the preprocessor stands for the state after them, unless memory ran out for the
-- next one.
abbrev pub HaveComeFrom : Rules → State → List Item → Preprocessing → Type 0
HaveComeFrom rules state items new =
    (after : State) × ItemsCome rules state items after × (is_spent new ≡ false → Stands new after)

-- `next` was called for these items, one after another, and nothing else was.
pub data AreNextItems : Preprocessing → List Item → Preprocessing → Type 0 where
  nothing : (items : List Item) (old new : Preprocessing)
      → items ≡ []
      → new ≡ old
      → AreNextItems old items new
  one_more : (item : Item) (before items : List Item) (old now new : Preprocessing)
      → AreNextItems old before now
      → IsNextItem now (Some item) new
      → items ≡ before ++ (item ∷ [])
      → AreNextItems old items new

-- `next` was called for these items, and then gave the end.
pub record AreItemsToEnd (old : Preprocessing) (items : List Item) (new : Preprocessing) : Type 0 where
  pub last : Preprocessing
  pub given : AreNextItems old items last
  pub ended : IsNextItem last None new

-- `next` was called for these items, and then memory was refused: to the list, and to no item, or to the next item.
pub data AreItemsToRefusal (old : Preprocessing) (items : List Item) (new : Preprocessing) : Type 0 where
  of_list : AreNextItems old items new → is_spent new ≡ is_spent old → AreItemsToRefusal old items new
  of_item : (last : Preprocessing)
      → AreNextItems old items last
      → is_spent last ≡ false
      → IsNextItem last (Some (Err out_of_memory)) new
      → AreItemsToRefusal old items new

-- These items came, one after another. If memory had run out before, there are none. After them the preprocessor stands
-- for the state that follows, also after errors, unless memory ran out for the next item.
pub record HaveCome (old : Preprocessing) (items : List Item) (new : Preprocessing) : Type 0 where
  pub none : is_spent old ≡ true → items ≡ []
  pub came : is_spent old ≡ false
      → (state : State) → Stands old state
      → HaveComeFrom (rules_of old) state items new
  pub holds : All ItemHoldsOrdinary items
  pub reports : is_spent new ≡ false → AreReported old items new
  pub by_next : AreItemsToRefusal old items new

-- these items came and were appended to the list
pub record AreAppended (old : Preprocessing) (before items : List Item) (new : Preprocessing) : Type 0 where
  pub more : List Item
  pub are_last : items ≡ before ++ more
  pub came : HaveCome old more new

-- All items that were left, and what they reported. Nothing is left after them, memory didn't run out for one of them,
-- and if it hadn't before, each error of the lexer is reported.
pub record AreAll (old : Preprocessing) (items : List Item) (new : Preprocessing) : Type 0 where
  pub items_of : AreItemsOf old items
  pub holds : All ItemHoldsOrdinary items
  pub ended : most_items new ≡ 0
  pub spent : is_spent new ≡ is_spent old
  pub reports : AreReported old items new
  pub reports_all : is_spent old ≡ false → errors_left new ≡ []
  pub by_next : AreItemsToEnd old items new

-- all items that were left were appended to the list
pub record AreAllAppended (old : Preprocessing) (before items : List Item) (new : Preprocessing) : Type 0 where
  pub more : List Item
  pub are_last : items ≡ before ++ more
  pub all : AreAll old more new

-- some items came and were dropped, and this is the preprocessor after them
pub record IsGivenUp (old new : Preprocessing) : Type 0 where
  pub items : List Item
  pub came : HaveCome old items new

-- `next` was called to the end, and the items were dropped. If memory ran out for none of them, they are all items that
-- were left.
pub record IsDrained (old new : Preprocessing) : Type 0 where
  pub items : List Item
  pub by_next : AreItemsToEnd old items new
  pub all : is_spent new ≡ is_spent old → AreAll old items new
