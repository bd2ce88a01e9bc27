-- The tokens of a line that is expanded, before memory is taken for them.
use Rattle.std.specs.Prelude.{List}
use Rattle.pp_lexer.specs.declared.token.Token.{Token}
use Rattle.pp_model.specs.declared.place.Place.{Place}

-- the place of the directive's word, and the tokens after it
pub record LineTokens : Type 0 where
  pub directive : Place
  pub tokens : List Token
