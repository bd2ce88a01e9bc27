-- One call of `add_define` (docs/RULES.md, "Runs").
use Rattle.std.specs.Prelude.{◌≡◌, ℕ, List, Result, Ok, Err}
use Rattle.std.specs.Str.{chars}
use Rattle.pp_lexer.specs.PreprocessorError.{out_of_memory}
use Rattle.pp_lexer.specs.declared.token.Token.{Token}
use Rattle.pp_model.specs.Names.{Name}
use Rattle.pp_model.specs.Run.{items_by, content_tokens}
use Rattle.pp_rs.specs.Comes.{State, with_added}
use Rattle.pp_macros.specs.Item.{Fault}
use Rattle.pp_rs.specs.Kept.{Preprocessing, Stands, is_spent, most_items, errors_left, error_place}
use Rattle.pp_rs.specs.Kept.{call_place, item_text, rules_of}

-- For each state that the preprocessor stood for, it now stands for that state with the name defined as a macro with
-- these tokens. If nothing was left to give, nothing is.
pub record IsWithAdded (name : Name) (tokens : List Token) (old new : Preprocessing) : Type 0 where
  pub stands : (state : State) → Stands old state → Stands new (with_added name tokens state)
  pub spent : is_spent new ≡ is_spent old
  pub ended : most_items old ≡ 0 → most_items new ≡ 0
  pub errors : errors_left new ≡ errors_left old
  pub place : error_place new ≡ error_place old
  pub text : item_text new ≡ item_text old
  pub call : call_place new ≡ call_place old
  pub rules : rules_of new ≡ rules_of old

-- What a call returns, and the preprocessor after it.
pub data IsAdded (old : Preprocessing) (name content : List ℕ) (answer : Result (Unit {0}) Fault)
    (new : Preprocessing) : Type 0 where
  -- memory ran out
  refused : answer ≡ Err out_of_memory → new ≡ old → IsAdded old name content answer new
  -- the first error of the lexer or number sign in the content
  faulty : (fault : Fault)
      → content_tokens (items_by (rules_of old) content) ≡ Err fault
      → answer ≡ Err fault
      → new ≡ old
      → IsAdded old name content answer new
  -- the content has these tokens
  added : (tokens : List Token)
      → content_tokens (items_by (rules_of old) content) ≡ Ok tokens
      → answer ≡ Ok tt
      → IsWithAdded (chars name) tokens old new
      → IsAdded old name content answer new
