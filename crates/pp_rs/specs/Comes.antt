-- What comes next in a state of a run: tokens, one after another, and then an error or the end.
use Rattle.std.specs.Prelude.{◌≡◌, Bool, List, [], ◌∷◌}
use Rattle.pp_lexer.specs.Lexed.{Seen}
use Rattle.pp_lexer.specs.Rules.{pp_rs}
use Rattle.pp_lexer.specs.declared.rules.Rules.{Rules}
use Rattle.pp_lexer.specs.declared.token.Token.{Token}
use Rattle.pp_model.specs.Emitting.{Emits, answers_at, expansion_limit}
use Rattle.pp_model.specs.Names.{Name}
use Rattle.pp_model.specs.Onward.{Onward, onward_reading}
use Rattle.pp_model.specs.Painting.{item_of}
use Rattle.pp_model.specs.Reading.{Reading, Expander}
use Rattle.pp_model.specs.Run as run
use Rattle.pp_model.specs.RunToEnd.{going_on, changed_by}
use Rattle.pp_model.specs.SourceReader as source
use Rattle.pp_model.specs.declared.outcome.Outcome.{Outcome}
use Rattle.pp_model.specs.declared.outcome.Outcome.TheVariants as outcome
use Rattle.pp_model.specs.declared.read.Taken.{Taken}

abbrev pub State : Type 0
State = Expander Onward

-- the state in which reading a source with these items begins, by these rules
abbrev pub start_by : Rules → List Seen → State
start_by rules items = going_on [] (run.start_by rules items)

-- the same by pp-rs's rules
abbrev pub start : List Seen → State
start items = start_by pp_rs items

-- the name is the object-like macro with these tokens as its body from now on
abbrev pub with_added : Name → List Token → State → State
with_added name tokens state = changed_by (run.with_added name tokens) state

-- the included text with these items is read next
abbrev pub with_included : List Seen → State → State
with_included items state = changed_by (run.with_included items) state

-- as many texts are around as may be
abbrev pub is_full : State → Bool
is_full state = source.is_full state.reader.reader

-- the source as a reader that goes on after errors
abbrev pub source_rules : Reading Onward
source_rules = onward_reading (answers_at expansion_limit)

-- this outcome comes next in the state, and `after` is the state after it
pub record Comes (state : State) (outcome : Outcome) (after : State) : Type 0 where
  pub taken : Taken
  pub emits : Emits source_rules (answers_at expansion_limit) state taken after
  pub is : outcome ≡ item_of taken

-- these tokens come next, one after another
pub data Gives : State → List Token → State → Type 0 where
  nothing : (tokens : List Token) (state after : State)
      → tokens ≡ []
      → after ≡ state
      → Gives state tokens after
  first : (token : Token) (rest tokens : List Token) (state next after : State)
      → Comes state (outcome.Token token) next
      → Gives next rest after
      → tokens ≡ token ∷ rest
      → Gives state tokens after

-- from this state these tokens come, and then this outcome
pub record IsRunFrom (state : State) (tokens : List Token) (last : Outcome) : Type 0 where
  pub before : State
  pub gives : Gives state tokens before
  pub after : State
  pub ends : Comes before last after
