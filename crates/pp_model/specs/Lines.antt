-- The rest of a directive's line: the items after its word, up to the line's NewLine (docs/RULES.md, Directives 3 to 7,
-- 9, 10, 13 and 14). The items of a text always have that NewLine. If a list ends without it, the line ends there too;
-- a token that is expected there is `UnexpectedEndOfInput` at the word.
use Rattle.std.specs.Prelude.{ℕ, ◌+◌, Bool, false, if◌then◌else◌, List, [], ◌∷◌, drop, Option, Some, None, ok_or}
use Rattle.std.specs.Prelude.{Result, Ok, Err, unwrap_or}
use Rattle.std.specs.Option.{option_or}
use Rattle.std.specs.Result.{result_err}
use Rattle.pp_lexer.specs.Lexed.{Seen}
use Rattle.pp_lexer.specs.Items.{Lexeme}
use Rattle.pp_lexer.specs.declared.lexer.item.Token.{Token as LexerToken}
use Rattle.pp_lexer.specs.declared.token.Location.{Location}
use Rattle.pp_lexer.specs.declared.token.PreprocessorError.TheVariants.{UnexpectedEndOfInput}
use Rattle.pp_lexer.specs.declared.token.Token.{Token}
use Rattle.pp_expression.specs.Answers.{◌>>=◌}
use Rattle.pp_model.specs.Places.{Fault}
use Rattle.pp_model.specs.Names.{Name}
use Rattle.pp_model.specs.Emitting.{first_before}
use Rattle.pp_model.specs.declared.definition.Placed.{Placed}
use Rattle.pp_model.specs.declared.outcome.IncludeLine.{IncludeLine}
use Rattle.pp_model.specs.Conversions.{is_newline, conversion, refused_token, identifier_of}

abbrev pub ends_line : Lexeme → Bool
ends_line (Ok token) = is_newline token.value
ends_line (Err fault) = false

-- the number of items of the rest of the line, with its NewLine
abbrev pub line_length : List Seen → ℕ
line_length [] = 0
line_length (s ∷ rest) = if ends_line s.item then 1 else 1 + line_length rest

-- where the line's NewLine begins
abbrev pub newline_start : Lexeme → Option ℕ
newline_start (Ok token) = if is_newline token.value then Some token.location.start else None
newline_start (Err fault) = None

-- the same of the line of these items, or `from` if it has none
abbrev pub line_end : ℕ → List Seen → ℕ
line_end from [] = from
line_end from (s ∷ rest) = unwrap_or (newline_start s.item) (line_end from rest)

-- an `#include` line with this place of its word, if these items come after it
abbrev pub include_line : Location → List Seen → IncludeLine
include_line word after =
    let rest : Location = record { start = word.end; end = line_end word.end after; line = word.line } in
    record { word = word; rest = rest }

-- the first error of the lexer on the line
abbrev pub line_fault : List Seen → Option Fault
line_fault [] = None
line_fault (s ∷ rest) = if ends_line s.item then None else option_or (result_err s.item) (line_fault rest)

-- the line's tokens, or the first error or `#` among them
abbrev pub line_tokens : List Seen → Result (List Token) Fault
line_tokens [] = Ok []
line_tokens (s ∷ rest) =
    if ends_line s.item then Ok []
    else (s.item >>= λ token. conversion token >>= λ first. first_before first (line_tokens rest))

-- whether a comment was passed as a blank anywhere in the text before the line's end
abbrev pub comments_before_end : List Seen → Bool
comments_before_end [] = false
comments_before_end (s ∷ rest) = if ends_line s.item then s.had_comments else comments_before_end rest

-- the first token, or the fault if there is none
abbrev pub first_token : Location → List Seen → Result LexerToken Fault
first_token word [] = Err (UnexpectedEndOfInput, word)
first_token word (s ∷ rest) = s.item

-- the name of an identifier, or the fault of any other token
abbrev pub name_of : LexerToken → Result Name Fault
name_of token = ok_or (identifier_of token.value) (refused_token token)

-- the first token as a name with its place, or the fault
abbrev pub first_name : Location → List Seen → Result Placed Fault
first_name word rest =
    first_token word rest >>= λ token. name_of token >>= λ name. Ok (record { name = name; location = token.location })

-- the line ends here, or the first token before its end is the fault
abbrev pub ended_line : Location → List Seen → Result (Unit {0}) Fault
ended_line word rest =
    first_token word rest >>= λ token. if is_newline token.value then Ok tt else Err (refused_token token)

-- a name alone on the line, or the fault
abbrev pub only_name : Location → List Seen → Result Name Fault
only_name word rest = first_name word rest >>= λ first. ended_line word (drop 1 rest) >>= λ end. Ok first.name
