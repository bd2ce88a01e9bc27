-- Tokens with their paint, as the code keeps them.
use Rattle.std.specs.Prelude.{ℕ, zero, suc, List, [], ◌∷◌, All, Ok, Err}
use Rattle.pp_lexer.specs.declared.token.Token.{Token}
use Rattle.pp_model.specs.Names.{Name}
use Rattle.pp_model.specs.Painting.{read_in, painted_among}
use Rattle.pp_model.specs.declared.read.Read.{Read}
use Rattle.pp_macros.specs.Held.{HoldsOrdinary}
use Rattle.pp_macros.specs.Item.{PlacedStep}

abbrev pub AllReadOrdinary : List Read → Type 0
AllReadOrdinary reads = All (λ read. HoldsOrdinary read.token.value) reads

-- what this text gives is unpainted
abbrev pub unpainted_step : ℕ → PlacedStep Token → PlacedStep Read
unpainted_step text (Ok token) = Ok (read_in text token)
unpainted_step text (Err exit) = Err exit

-- what is taken while these names are open
abbrev pub painted_step : List Name → PlacedStep Read → PlacedStep Read
painted_step names (Ok read) = Ok (painted_among names read)
painted_step names (Err exit) = Err exit

-- the tokens, of which those from this position on are taken while these names are open
abbrev pub painted_from : List Name → ℕ → List Read → List Read
painted_from names k [] = []
painted_from names zero (read ∷ reads) = painted_among names read ∷ painted_from names zero reads
painted_from names (suc k) (read ∷ reads) = read ∷ painted_from names k reads
