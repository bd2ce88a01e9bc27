-- *Output*: items as lines and as bytes, as the program prints them
use Rattle.std.specs.Prelude.{ℕ, if◌then◌else◌, ◌&&◌, Bool, false, List, [], ◌∷◌, ◌++◌, map, All, IsTrue}
use Rattle.std.specs.List.{flat_map}
use Rattle.std.specs.Str.{encode_utf8_all}
use Rattle.pp_lexer.specs.ItemText.{item_text}
use Rattle.pp_lexer.specs.Spelling.{spelled_text, values_of}
use Rattle.pp_lexer.specs.TokenValue.{is_ordinary}
use Rattle.pp_lexer.specs.declared.token.Token.{Token}

-- the tokens are identifiers, numbers and punctuators
abbrev pub AllOrdinary : List Token → Type 0
AllOrdinary tokens = All (λ t. IsTrue (is_ordinary t.value)) tokens

-- whether a line begins with an ordinary token
abbrev pub begins_ordinary : List Token → Bool
begins_ordinary [] = false
begins_ordinary (t ∷ ts) = is_ordinary t.value

-- A token in front of lines. It joins the first line if both it and that line's first token are ordinary; otherwise it
-- is a line by itself.
abbrev pub put_before : Token → List (List Token) → List (List Token)
put_before t [] = (t ∷ []) ∷ []
put_before t (line ∷ lines) =
    if is_ordinary t.value && begins_ordinary line then (t ∷ line) ∷ lines else (t ∷ []) ∷ line ∷ lines

-- the tokens cut into lines: each longest run of ordinary tokens, and each other item by itself
abbrev pub lines_of : List Token → List (List Token)
lines_of [] = []
lines_of (t ∷ ts) = put_before t (lines_of ts)

-- the characters of a line: its ordinary tokens, spelled, or the directive's item
abbrev pub line_text : List Token → List ℕ
line_text [] = []
line_text (t ∷ ts) = if is_ordinary t.value then spelled_text (values_of (t ∷ ts)) else item_text t.value

-- each line's bytes, without its end
abbrev pub output_lines : List Token → List (List ℕ)
output_lines tokens = map (λ line. encode_utf8_all (line_text line)) (lines_of tokens)

-- the bytes of lines, each with LF after it
abbrev pub written_lines : List (List ℕ) → List ℕ
written_lines lines = flat_map (λ line. line ++ (10 ∷ [])) lines

-- all the bytes that are printed for the tokens
abbrev pub output : List Token → List ℕ
output tokens = written_lines (output_lines tokens)
