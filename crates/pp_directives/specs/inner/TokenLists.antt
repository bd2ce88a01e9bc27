-- Lists into which the tokens of a line are read.
use Rattle.std.specs.Prelude.{◌≢◌, List, Option, IsTrue}
use Rattle.std.specs.Str.{IsAscii}
use Rattle.pp_lexer.specs.TokenValue.{is_ordinary}
use Rattle.pp_lexer.specs.declared.lexer.plain.Form.TheVariants.{Hash}
use Rattle.pp_lexer.specs.declared.token.Token.{Token}
use Rattle.pp_model.specs.Names.{Name}
use Rattle.pp_model.specs.declared.place.Place.{Place}
use Rattle.pp_directives.specs.WordTokens.{word_token}
use Rattle.pp_directives.specs.declared.token_list.LineToken.{LineToken}
use Rattle.pp_directives.specs.declared.token_list.LineToken.TheVariants as line

-- what is kept with the tokens: the place of the word of their directive, and the parameters of the macro
pub record Kept : Type 0 where
  pub directive : Option Place
  pub parameters : List Name

-- the token
abbrev pub token_of : LineToken → Token
token_of (line.Word word) = word_token word
token_of (line.Token token) = token

-- it is a word that is no `#`, or an ordinary token
abbrev pub IsReadable : LineToken → Type 0
IsReadable (line.Word word) = (word.form ≢ Hash) × IsAscii word.spelling.now
IsReadable (line.Token token) = IsTrue (is_ordinary token.value)
