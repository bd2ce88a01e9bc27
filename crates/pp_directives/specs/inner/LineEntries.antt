-- The tokens of the rest of a line, as an item holds them.
use Rattle.std.specs.Prelude.{Bool, List, Result, Ok}
use Rattle.pp_expression.specs.Answers.{◌>>=◌}
use Rattle.pp_lexer.specs.Entry.{Entry}
use Rattle.pp_lexer.specs.Lexed.{Seen}
use Rattle.pp_lexer.specs.Preorder.{preorder}
use Rattle.pp_lexer.specs.declared.token.Location.{Location}
use Rattle.pp_lexer.specs.declared.token.TokenValue.{TokenValue}
use Rattle.pp_model.specs.Places.{Fault}
use Rattle.pp_model.specs.Lines.{line_tokens, comments_before_end}
use Rattle.pp_model.specs.Moves.{gives_item, Move, line_move, version_item}

abbrev pub line_entries : List Seen → Result (List Entry) Fault
line_entries rest = line_tokens rest >>= λ tokens. Ok (preorder tokens)

-- an item that holds them
abbrev pub entries_move : (List Entry → Bool → Bool → TokenValue) → Location → List Seen → Move
entries_move value word rest = line_move (line_entries rest) (λ tokens. gives_item (value tokens) word) rest

-- a `#version` line
abbrev pub version_move : Location → List Seen → Move
version_move word rest = entries_move (version_item (comments_before_end rest)) word rest
