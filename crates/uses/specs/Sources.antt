-- What the run of a source gives (docs/RULES.md, "Runs").
use Rattle.std.specs.Prelude.{ℕ, List}
use Rattle.pp_lexer.specs.declared.token.Token.{Token}
use Rattle.pp_lexer.specs.declared.token.placed_error.PlacedError.{PlacedError}
use Rattle.pp_model.specs.Run.{items_of}
use Rattle.pp_model.specs.declared.outcome.Outcome.TheVariants as outcome
use Rattle.pp_rs.specs.Comes.{State, Gives, IsRunFrom, start}

-- the run of the source begins with these tokens
abbrev pub BeginsWith : List ℕ → List Token → Type 0
BeginsWith source tokens = (after : State) × Gives (start (items_of source)) tokens after

-- the run of the source gives these tokens, and then the end
abbrev pub GivesAll : List ℕ → List Token → Type 0
GivesAll source tokens = IsRunFrom (start (items_of source)) tokens outcome.End

-- the run of the source gives these tokens, and then this error, its first
abbrev pub FailsAfter : List ℕ → List Token → PlacedError → Type 0
FailsAfter source tokens error = IsRunFrom (start (items_of source)) tokens (outcome.Fault (error.error, error.place))
