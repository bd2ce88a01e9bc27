-- One call of `next` (docs/RULES.md, "Runs").
use Rattle.std.specs.Prelude.{◌≡◌, ◌<◌, ◌⊎◌, Bool, true, false, List, [], ◌∷◌, Option}
use Rattle.std.specs.Prelude.{Some, None, Ok, Err, MatchBool, IfSome, ⊤}
use Rattle.pp_lexer.specs.PreprocessorError.{out_of_memory}
use Rattle.pp_lexer.specs.declared.rules.Rules.{Rules}
use Rattle.pp_lexer.specs.declared.token.Location.{Location}
use Rattle.pp_lexer.specs.declared.token.PreprocessorError.TheVariants.{UnknownDirective}
use Rattle.pp_model.specs.declared.outcome.Outcome.{Outcome}
use Rattle.pp_model.specs.declared.outcome.Outcome.TheVariants as outcome
use Rattle.pp_model.specs.ItemCall.{item_call, text_of}
use Rattle.pp_rs.specs.Comes.{State, Comes}
use Rattle.pp_macros.specs.Held.{AnswerHoldsOrdinary}
use Rattle.pp_macros.specs.Item.{Fault, Item, is_out_of_memory}
use Rattle.pp_macros.specs.LexerErrors.{ErrorAt, PassesErrors}
use Rattle.pp_rs.specs.Kept.{Preprocessing, Stands, is_spent, most_items, errors_left, error_place}
use Rattle.pp_rs.specs.Kept.{asked_line, call_place, item_text, rules_of}

-- the answer is the error that memory ran out
abbrev pub is_refusal : Option Item → Bool
is_refusal (Some (Err fault)) = is_out_of_memory fault.0
is_refusal _ = false

-- the outcome of an answer that asks for the rest of a line, or for none: an error that asks is an `#include` line
abbrev pub outcome_of : Option Item → Option Location → Outcome
outcome_of (Some (Ok token)) asked = outcome.Token token
outcome_of (Some (Err fault)) (Some rest) = outcome.Include (record { word = fault.1; rest = rest })
outcome_of (Some (Err fault)) None = outcome.Fault fault
outcome_of None asked = outcome.End

-- the answer is the error of a directive that isn't known
abbrev pub is_unknown_directive : Option Item → Bool
is_unknown_directive (Some (Err (UnknownDirective, place))) = true
is_unknown_directive _ = false

-- only the error of an unknown directive asks for a text, and only if the rules say so
abbrev pub Asks : Rules → Option Item → Option Location → Type 0
Asks rules answer (Some rest) = (rules.asks_includes ≡ true) × (is_unknown_directive answer ≡ true)
Asks rules answer None = ⊤

-- the answer is what comes next in this state, its text and the call from which it comes are kept, and the preprocessor
-- stands for the state after it
pub record Emitted (answer : Option Item) (state : State) (new : Preprocessing) : Type 0 where
  pub after : State
  pub emits : Comes state (outcome_of answer (asked_line new)) after
  pub text : IfSome (text_of emits.taken) (λ text. item_text new ≡ text)
  pub call : call_place new ≡ item_call emits.emits
  pub goes_on : Stands new after

-- the bound of the items to come falls with each item, and is 0 after the end
abbrev pub IsLessLeft : Option Item → Preprocessing → Preprocessing → Type 0
IsLessLeft (Some item) old new = most_items new < most_items old
IsLessLeft None old new = most_items new ≡ 0

-- The true place of an error that is given, if these errors of the lexer are left. If it is the first of them, this is
-- that error's true place, and it is reported now. Otherwise it is the place in the item.
pub data IsErrorAt (fault : Fault) (left : List ErrorAt) (new : Preprocessing) : Type 0 where
  of_lexer : left ≡ record { item = fault; place = error_place new } ∷ errors_left new
      → IsErrorAt fault left new
  of_its_own : error_place new ≡ fault.1
      → errors_left new ≡ left
      → IsErrorAt fault left new

-- A token reports no error. At the end none is left.
abbrev pub ReportsAnswer : Option Item → List ErrorAt → Location → Preprocessing → Type 0
ReportsAnswer (Some (Err fault)) left place new = IsErrorAt fault left new
ReportsAnswer (Some (Ok token)) left place new = (errors_left new ≡ left) × (error_place new ≡ place)
ReportsAnswer None left place new = (left ≡ []) × (errors_left new ≡ []) × (error_place new ≡ place)

-- the errors of the lexer in dead text and on skipped lines are passed, if the rules say so, and then the answer
-- reports
pub record ReportsError (answer : Option Item) (old new : Preprocessing) : Type 0 where
  pub left : List ErrorAt
  pub passes : PassesErrors (rules_of old).passes_dead_errors (errors_left old) left
  pub reports : ReportsAnswer answer left (error_place old) new

-- memory for the next item ran out
pub record IsRefusedItem (answer : Option Item) (new : Preprocessing) : Type 0 where
  pub item : answer ≡ Some (Err out_of_memory)
  pub spent : is_spent new ≡ true

-- the answer is what comes next, an item or the end, in each state that the preprocessor stands for
pub record IsGivenItem (old : Preprocessing) (answer : Option Item) (new : Preprocessing) : Type 0 where
  pub item : (state : State) → Stands old state → Emitted answer state new
  pub no_refusal : is_refusal answer ≡ false
  pub asks : Asks (rules_of old) answer (asked_line new)
  pub holds : AnswerHoldsOrdinary answer
  pub reports : ReportsError answer old new
  pub spent : is_spent new ≡ false

-- One call of `next`. Once memory has run out, each call gives `None` and changes nothing. Each item lowers the bound
-- of what is left, so memory runs out only if something is left.
pub record IsNextItem (old : Preprocessing) (answer : Option Item) (new : Preprocessing) : Type 0 where
  pub gives :
      MatchBool (is_spent old)
      ((answer ≡ None) × (new ≡ old))
      (IsRefusedItem answer new ⊎ IsGivenItem old answer new)
  pub less_left : IsLessLeft answer old new
  pub rules : rules_of new ≡ rules_of old
