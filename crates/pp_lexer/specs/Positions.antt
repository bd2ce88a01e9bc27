-- A byte of a source as a line and a column, with newlines as in phase 5 of GLSL ES 3.20, section 3.10.
use Rattle.std.specs.Prelude.{ℕ, ◌+◌, nat_le, if◌then◌else◌, List, [], ◌∷◌, reverse, count_by}
use Rattle.std.specs.Str.{chars}
use Rattle.pp_lexer.specs.Comments.{line_length}
use Rattle.pp_lexer.specs.Cursor.{Placed}
use Rattle.pp_lexer.specs.Lines.{is_newline, lines}

-- the characters before the first one that ends after the offset
abbrev pub up_to : ℕ → List Placed → List Placed
up_to offset [] = []
up_to offset (p ∷ ps) = if nat_le p.end offset then p ∷ up_to offset ps else []

-- the characters of a source before the offset, the nearest first
abbrev pub before_offset : List ℕ → ℕ → List Placed
before_offset source offset = reverse (up_to offset (lines (chars source)))

-- The line is one more than the number of newlines before the offset. The column is one more than the number of
-- characters between the last of these newlines, or the start of the source, and the offset.
unfoldable pub line_column : List ℕ → ℕ → ℕ × ℕ
line_column source offset =
    let before = before_offset source offset in
    (count_by is_newline before + 1, line_length before + 1)
