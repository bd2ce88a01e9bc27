-- The run of a source: which tokens it gives after the definitions were added, and how it ends. No other file of this
-- crate says so.
use Rattle.std.specs.Prelude.{◌≡◌, ℕ, List, [], ◌∷◌, Result, Ok}
use Rattle.std.specs.Borrow.{Bor}
use Rattle.std.specs.Str.{chars}
use Rattle.pp_model.specs.Places.{Fault}
use Rattle.pp_model.specs.Run.{items_of, content_tokens}
use Rattle.pp_model.specs.declared.outcome.Outcome.{Outcome}
use Rattle.pp_model.specs.declared.outcome.Outcome.TheVariants as outcome
use Rattle.pp_rs.specs.Comes.{State, Gives, IsRunFrom, start, with_added}
use Rattle.pp_rs.specs.declared.token.Token.{Token}
use Rattle.pp_print.specs.declared.ends.RunEnd.{RunEnd}
use Rattle.pp_print.specs.declared.ends.RunEnd.TheVariants.{Done, Stopped}

-- a name and its content, both as UTF-8
abbrev pub Definition : Type 0
Definition = Bor (List ℕ) × Bor (List ℕ)

-- the tokens of a definition's content, or the first error or number sign in it
abbrev pub tokens_of : Definition → Result (List Token) Fault
tokens_of definition = content_tokens (items_of definition.1.now)

abbrev pub start_of : List ℕ → State
start_of source = start (items_of source)

-- the definitions, added in order, lead from the first state to the second
pub data Adds : State → List Definition → State → Type 0 where
  none : (state : State) (definitions : List Definition) (after : State)
      → definitions ≡ []
      → after ≡ state
      → Adds state definitions after
  first : (definition : Definition) (tokens : List Token) (rest : List Definition) (state : State)
      (definitions : List Definition) (after : State)
      → tokens_of definition ≡ Ok tokens
      → Adds (with_added (chars definition.0.now) tokens state) rest after
      → definitions ≡ definition ∷ rest
      → Adds state definitions after

-- the outcome at the end of a run
abbrev pub last_outcome : RunEnd → Outcome
last_outcome Done = outcome.End
last_outcome (Stopped error location) = outcome.Fault (error, location)

-- from this state these tokens come first
pub record AreFirstFrom (state : State) (tokens : List Token) : Type 0 where
  pub after : State
  pub gives : Gives state tokens after

-- from this state these tokens come, and then this end
abbrev pub EndsFrom : State → List Token → RunEnd → Type 0
EndsFrom state tokens end = IsRunFrom state tokens (last_outcome end)

-- these tokens come first of a source, once these definitions were added
pub record AreFirstOf (source : List ℕ) (definitions : List Definition) (tokens : List Token) : Type 0 where
  pub state : State
  pub adds : Adds (start_of source) definitions state
  pub first : AreFirstFrom state tokens

-- the run of a source, once these definitions were added, gives these tokens, and then ends so
pub record IsRunOf (source : List ℕ) (definitions : List Definition) (tokens : List Token) (end : RunEnd) : Type 0 where
  pub state : State
  pub adds : Adds (start_of source) definitions state
  pub run : EndsFrom state tokens end
