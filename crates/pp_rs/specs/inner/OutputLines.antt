-- The lines of items, one item after another.
use Rattle.std.specs.Prelude.{ℕ, if◌then◌else◌, List, [], ◌∷◌, ◌++◌, Option, Some, None}
use Rattle.std.specs.Str.{encode_utf8_all}
use Rattle.pp_lexer.specs.ItemText.{item_text}
use Rattle.pp_lexer.specs.Spelling.{spelling}
use Rattle.pp_lexer.specs.TokenValue.{is_ordinary}
use Rattle.pp_lexer.specs.declared.token.Token.{Token}
use Rattle.pp_lexer.specs.declared.token.TokenValue.{TokenValue}

-- a line with one more word: the first one, or one after a space
abbrev pub extended : Option (List ℕ) → List ℕ → List ℕ
extended None word = word
extended (Some line) word = line ++ (32 ∷ word)

-- the line that is begun, if there is one
abbrev pub begun_line : Option (List ℕ) → List (List ℕ)
begun_line None = []
begun_line (Some line) = line ∷ []

-- the line that is begun after a token, if there is one
abbrev pub line_after : Option (List ℕ) → TokenValue → Option (List ℕ)
line_after line value = if is_ordinary value then Some (extended line (encode_utf8_all (spelling value))) else None

-- the lines that a token ends
abbrev pub ended_lines : Option (List ℕ) → TokenValue → List (List ℕ)
ended_lines line value = if is_ordinary value then [] else begun_line line ++ (encode_utf8_all (item_text value) ∷ [])

-- the lines that tokens make after a line that is begun
abbrev pub lines_from : Option (List ℕ) → List Token → List (List ℕ)
lines_from line [] = begun_line line
lines_from line (t ∷ ts) = ended_lines line t.value ++ lines_from (line_after line t.value) ts
