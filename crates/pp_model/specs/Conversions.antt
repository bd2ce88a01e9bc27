-- A token of the lexer as a token of the preprocessed source, or as one that isn't allowed at its position.
use Rattle.std.specs.Prelude.{Bool, true, false, Option, Some, None, Result, Ok, Err}
use Rattle.pp_lexer.specs.declared.lexer.item.Token.{Token as LexerToken}
use Rattle.pp_lexer.specs.declared.lexer.item.TokenValue.{TokenValue as LexerTokenValue}
use Rattle.pp_lexer.specs.declared.lexer.item.TokenValue.TheVariants.{Hash, NewLine, Ident as LexerIdent}
use Rattle.pp_lexer.specs.declared.lexer.item.TokenValue.TheVariants.{Integer as LexerInteger, Float as LexerFloat}
use Rattle.pp_lexer.specs.declared.lexer.item.TokenValue.TheVariants.{Punct as LexerPunct}
use Rattle.pp_lexer.specs.declared.token.Location.{Location}
use Rattle.pp_lexer.specs.declared.token.PreprocessorError.TheVariants.{UnexpectedToken, UnexpectedHash}
use Rattle.pp_lexer.specs.declared.token.PreprocessorError.TheVariants.{UnexpectedNewLine}
use Rattle.pp_lexer.specs.declared.token.Punct.TheVariants.{LeftParen, RightParen, Comma}
use Rattle.pp_lexer.specs.declared.token.Token.{Token}
use Rattle.pp_lexer.specs.declared.token.TokenValue.TheVariants.{Ident, Integer, Float, Punct}
use Rattle.pp_model.specs.Places.{Fault}
use Rattle.pp_model.specs.Names.{Name}

abbrev pub is_newline : LexerTokenValue → Bool
is_newline NewLine = true
is_newline _ = false

abbrev pub is_hash : LexerTokenValue → Bool
is_hash Hash = true
is_hash _ = false

abbrev pub opens_parameters : LexerTokenValue → Bool
opens_parameters (LexerPunct LeftParen) = true
opens_parameters _ = false

abbrev pub closes_parameters : LexerTokenValue → Bool
closes_parameters (LexerPunct RightParen) = true
closes_parameters _ = false

abbrev pub parts_parameters : LexerTokenValue → Bool
parts_parameters (LexerPunct Comma) = true
parts_parameters _ = false

abbrev pub identifier_of : LexerTokenValue → Option Name
identifier_of (LexerIdent name) = Some name
identifier_of _ = None

abbrev pub conversion_at : Location → LexerTokenValue → Result Token Fault
conversion_at place (LexerIdent name) = Ok (record { value = Ident name; location = place })
conversion_at place (LexerInteger i) = Ok (record { value = Integer i; location = place })
conversion_at place (LexerFloat f) = Ok (record { value = Float f; location = place })
conversion_at place (LexerPunct p) = Ok (record { value = Punct p; location = place })
conversion_at place Hash = Err (UnexpectedHash, place)
conversion_at place NewLine = Err (UnexpectedNewLine, place)

-- the token with its value and place; a `#` or a newline is refused
abbrev pub conversion : LexerToken → Result Token Fault
conversion token = conversion_at token.location token.value

abbrev pub refusal_of : Result Token Fault → Fault
refusal_of (Ok token) = (UnexpectedToken token.value, token.location)
refusal_of (Err fault) = fault

-- the fault of a token that isn't allowed at its position
abbrev pub refused_token : LexerToken → Fault
refused_token token = refusal_of (conversion token)
