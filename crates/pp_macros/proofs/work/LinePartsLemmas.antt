-- What is on a line, by the parts of it that have names of their own.
use Rattle.std.proofs.Common.{◌≡◌, List, Option, Some, None, Result, Ok, refl}
use Rattle.std.specs.Prelude.{ok_or}
use Rattle.pp_lexer.specs.declared.lexer.item.Token.{Token as LexerToken}
use Rattle.pp_expression.specs.Answers.{◌>>=◌}
use Rattle.pp_model.specs.Places.{Fault}
use Rattle.pp_model.specs.Conversions.{identifier_of, refused_token}
use Rattle.pp_model.specs.DefineLines.{new_parameter}
use Rattle.pp_model.specs.Lines.{name_of}
use Rattle.pp_model.specs.Names.{Name}
use Rattle.pp_model.specs.declared.definition.Placed.{Placed}
use Rattle.pp_model.specs.inner.DefineLines.{parameter_here}
use Rattle.pp_model.specs.inner.Lines.{name_or_refused}

-- one more parameter is that of the token's name
pub parameter_here_is : (names : List Name) (token : LexerToken)
    → (name_of token >>= new_parameter names token.location) ≡ parameter_here names token (identifier_of token.value)
parameter_here_is names token = by (identifier_of token.value)
  where
    by : (found : Option Name) → (ok_or found (refused_token token) >>= new_parameter names token.location) ≡ parameter_here names token found
    by (Some name) = refl
    by None = refl

-- a name with its place is that of the token's name
pub name_or_refused_is : (token : LexerToken)
    → ◌≡◌ {A = Result Placed Fault} (name_of token >>= λ name. Ok (record { name = name; location = token.location }))
    (name_or_refused token (identifier_of token.value))
name_or_refused_is token = by (identifier_of token.value)
  where
    by : (found : Option Name)
        → ◌≡◌ {A = Result Placed Fault} (ok_or found (refused_token token) >>= λ name. Ok (record { name = name; location = token.location }))
        (name_or_refused token found)
    by (Some name) = refl
    by None = refl
