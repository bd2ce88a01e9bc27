-- The token that a token reference refers to.
use Rattle.std.specs.Prelude.{◌≡◌, [], ◌∷◌, ◌++◌, String, string_bytes}
use Rattle.std.specs.Str.{chars}
use Rattle.pp_lexer.specs.Spelling.{spelling}
use Rattle.pp_lexer.specs.declared.token.Token.{Token}
use Rattle.pp_lexer.specs.declared.token.TokenValue.{TokenValue}
use Rattle.pp_lexer.specs.declared.token.TokenValue.TheVariants as token
use Rattle.pp_rs.specs.declared.pp.token_ref.TokenRef.{TokenRef}
use Rattle.pp_rs.specs.declared.pp.token_ref.ValueRef.{ValueRef}
use Rattle.pp_rs.specs.declared.pp.token_ref.ValueRef.TheVariants.{Ident, Integer, Float, Punct}

abbrev pub value_of : ValueRef → TokenValue
value_of (Ident name) = token.Ident (chars name.now)
value_of (Integer integer) = token.Integer integer
value_of (Float text width) = token.Float (record { text = chars text.now; width = width })
value_of (Punct punct) = token.Punct punct

abbrev pub token_of : TokenRef → Token
token_of reference = record { value = value_of reference.value; location = reference.location }

-- the text is as it was, with the token's spelling and a space after it
abbrev pub TakesText : {Z : Type 0} → String Z → TokenRef → String Z → Type 0
TakesText {Z} old token new =
    chars (string_bytes new) ≡ chars (string_bytes old) ++ (spelling (value_of token.value) ++ 32 ∷ [])
