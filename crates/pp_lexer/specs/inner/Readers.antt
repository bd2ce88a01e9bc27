-- What the character readers have left, by their fields, and what their steps give.
use Rattle.std.specs.Prelude.{◌≡◌, ◌≢◌, ℕ, ◌+◌, ◌-◌, ◌≤◌, if◌then◌else◌, List, [], ◌∷◌, ◌++◌, ◌⊎◌, Some, slice_get}
use Rattle.std.specs.Prelude.{encode_utf8, length}
use Rattle.std.specs.Str.{chars}
use Rattle.std.specs.Char.{len_utf8}
use Rattle.pp_lexer.specs.Cursor.{Placed, Cursor, passed, finished}
use Rattle.pp_lexer.specs.Lines.{Piece, pieces}
use Rattle.pp_lexer.specs.inner.Lines.{is_newline_piece}
use Rattle.pp_lexer.specs.Continuations.{continued}
use Rattle.pp_lexer.specs.Comments.{line_length, block_length, has_close, replaced}

-- the characters of pieces, if the first one has this line and begins at this byte
abbrev pub placed_from : ℕ → ℕ → List Piece → List Placed
placed_from line at [] = []
placed_from line at (p ∷ ps) =
    record { char = p.char; line = line; end = at + p.bytes }
    ∷ placed_from (if is_newline_piece p then line + 1 else line) (at + p.bytes) ps

-- the reader of what is left without its continuations
abbrev pub joined : Cursor → Cursor
joined c = record { rest = continued c.rest; offset = c.offset; total = c.total }

-- the reader of what is left with a mark for each comment
abbrev pub uncommented : Cursor → Cursor
uncommented c = record { rest = replaced c.total c.rest; offset = c.offset; total = c.total }

-- the reader after the rest of a line comment
abbrev pub past_line : Cursor → Cursor
past_line c = passed (line_length c.rest) c

-- the reader after the rest of a block comment
abbrev pub past_block : Cursor → Cursor
past_block c = if has_close c.rest then passed (block_length c.rest) c else finished c

-- the first piece of the text is this character, and `rest` is the text after it
pub record IsFirstPiece (text : List ℕ) (c : ℕ) (rest : List ℕ) : Type 0 where
  pub room : length rest + len_utf8 c ≤ length text
  pub pieces_are : pieces (chars text) ≡ record { char = c; bytes = length text - length rest } ∷ pieces (chars rest)

-- nothing is left of the text
pub record IsAtEnd (text : List ℕ) : Type 0 where
  pub is_empty : length text ≡ 0
  pub no_pieces : pieces (chars text) ≡ []

-- `rest` is the text after this character, or the whole text if it doesn't begin with it
abbrev pub IsSkipped : List ℕ → ℕ → List ℕ → Type 0
IsSkipped text c rest = (text ≡ encode_utf8 c ++ rest) ⊎ ((text ≡ rest) × (slice_get (chars text) 0 ≢ Some c))
