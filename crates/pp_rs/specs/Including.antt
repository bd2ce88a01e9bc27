-- One call of `include` (docs/RULES.md, "Calls").
use Rattle.std.specs.Prelude.{◌≡◌, ◌≤◌, ◌<◌, ◌-◌, ◌^◌, true, false, ℕ, List, ◌++◌, codes, length, None, Result}
use Rattle.std.specs.Prelude.{Ok, Err}
use Rattle.pp_model.specs.Run.{items_by}
use Rattle.pp_macros.specs.LexerErrors.{ErrorAt, lexer_errors_by}
use Rattle.pp_rs.specs.Comes.{State, with_included, is_full}
use Rattle.pp_rs.specs.Kept.{Preprocessing, Stands, is_spent, errors_left, error_place, asked_line, item_text, rules_of}
use Rattle.pp_rs.specs.declared.pp.including.IncludeError.{IncludeError}
use Rattle.pp_rs.specs.declared.pp.including.IncludeError.TheVariants.{TooLong, TooDeep, OutOfMemory}

-- The errors of the text come before those that were left, but for one that was read before and comes next.
pub record IsInserted (errors before after : List ErrorAt) : Type 0 where
  pub first : List ErrorAt
  pub left : List ErrorAt
  pub at_most_one : length first ≤ 1
  pub were : before ≡ first ++ left
  pub are : after ≡ first ++ errors ++ left

-- For each state that the preprocessor stood for, fewer texts are around than may be, and it now stands for that state
-- with the text included. The last item asks for no text any more.
pub record IsWithIncluded (text : List ℕ) (old new : Preprocessing) : Type 0 where
  pub room : (state : State) → Stands old state → is_full state ≡ false
  pub stands : (state : State) → Stands old state → Stands new (with_included (items_by (rules_of old) text) state)
  pub spent : is_spent new ≡ is_spent old
  pub errors : IsInserted (lexer_errors_by (rules_of old) text) (errors_left old) (errors_left new)
  pub place : error_place new ≡ error_place old
  pub text_stays : item_text new ≡ item_text old
  pub answered : asked_line new ≡ None
  pub rules : rules_of new ≡ rules_of old

-- What a call returns, and the preprocessor after it.
pub data IsIncluded (old : Preprocessing) (text : List ℕ) (answer : Result (Unit {0}) IncludeError)
    (new : Preprocessing) : Type 0 where
  -- memory ran out
  refused : answer ≡ Err OutOfMemory → new ≡ old → IsIncluded old text answer new
  -- the text would be inside too many others
  too_deep : ((state : State) → Stands old state → is_full state ≡ true)
      → answer ≡ Err TooDeep
      → new ≡ old
      → IsIncluded old text answer new
  -- the text comes next
  included : answer ≡ Ok tt → IsWithIncluded text old new → IsIncluded old text answer new

-- the message of an error, as UTF-8
abbrev pub include_sentence : IncludeError → List ℕ
include_sentence TooLong = codes "the text is too long"
include_sentence TooDeep = codes "texts are included more than 200 deep"
include_sentence OutOfMemory = codes "an allocation failed"

-- What a call of `try_include` returns, and the preprocessor after it.
pub data IsTriedInclude (old : Preprocessing) (text : List ℕ) (answer : Result (Unit {0}) IncludeError)
    (new : Preprocessing) : Type 0 where
  -- the text is too long, and nothing changes
  too_long : 2 ^ 32 - 1 ≤ length text
      → answer ≡ Err TooLong
      → new ≡ old
      → IsTriedInclude old text answer new
  -- otherwise the call does what `include` does
  short : length text < 2 ^ 32 - 1
      → IsIncluded old text answer new
      → IsTriedInclude old text answer new
