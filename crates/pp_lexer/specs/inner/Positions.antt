-- How far a line and a column have been counted.
use Rattle.std.specs.Prelude.{ℕ, ◌+◌, nat_le, if◌then◌else◌, List, [], ◌∷◌}
use Rattle.pp_lexer.specs.Cursor.{Placed}
use Rattle.pp_lexer.specs.Lines.{is_newline}

-- the line and the column of the offset, if the characters to come begin at this line and column
abbrev pub position_from : ℕ → ℕ → ℕ → List Placed → ℕ × ℕ
position_from line column offset [] = (line, column)
position_from line column offset (p ∷ ps) =
    if nat_le p.end offset then
    (if is_newline p then position_from (line + 1) 1 offset ps else position_from line (column + 1) offset ps)
    else (line, column)
