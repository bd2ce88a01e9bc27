-- Parts of the rest of a line, under names of their own.
use Rattle.std.specs.Prelude.{if◌then◌else◌, List, [], drop, Option, Some, None, Result, Ok, Err}
use Rattle.pp_lexer.specs.Items.{Lexeme}
use Rattle.pp_lexer.specs.Lexed.{Seen}
use Rattle.pp_lexer.specs.declared.lexer.item.Token.{Token as LexerToken}
use Rattle.pp_lexer.specs.declared.token.Token.{Token}
use Rattle.pp_expression.specs.Answers.{◌>>=◌}
use Rattle.pp_model.specs.Places.{Fault}
use Rattle.pp_model.specs.Names.{Name}
use Rattle.pp_model.specs.Conversions.{is_newline, conversion, refused_token}
use Rattle.pp_model.specs.Emitting.{first_before}
use Rattle.pp_model.specs.declared.definition.Placed.{Placed}

abbrev pub tokens_from : Lexeme → Result (List Token) Fault → Result (List Token) Fault
tokens_from (Err fault) later = Err fault
tokens_from (Ok token) later =
    if is_newline token.value then Ok [] else (conversion token >>= λ first. first_before first later)

abbrev pub after_first_token : List Seen → List Seen
after_first_token rest = drop 1 rest

abbrev pub name_or_refused : LexerToken → Option Name → Result Placed Fault
name_or_refused token (Some name) = Ok (record { name = name; location = token.location })
name_or_refused token None = Err (refused_token token)

abbrev pub newline_or_refused : LexerToken → Result (Unit {0}) Fault
newline_or_refused token = if is_newline token.value then Ok tt else Err (refused_token token)
