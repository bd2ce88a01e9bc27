-- Columns: one more than the number of characters before a place on its line.
use Rattle.std.specs.Prelude.{ℕ, Bool, ◌+◌, ◌&&◌, nat_eq, nat_lt, nat_le, if◌then◌else◌, List, [], ◌∷◌, take}
use Rattle.pp_lexer.specs.Lines.{is_line_break}
use Rattle.glslpp_parts.specs.Texts.{source_text}

-- a byte of a character that isn't its first: 10xxxxxx in binary
abbrev pub is_later_byte : ℕ → Bool
is_later_byte b = nat_le 128 b && nat_lt b 192

-- the column after one more byte: a line break starts again at 1, and the first byte of each character counts as one
abbrev pub column_past : ℕ → ℕ → ℕ
column_past column b = if is_line_break b then 1 else if is_later_byte b then column else column + 1

-- the column after these bytes, which begin at this column
abbrev pub column_after : ℕ → List ℕ → ℕ
column_after column [] = column
column_after column (b ∷ bs) = column_after (column_past column b) bs

-- the column of a place in a text, this many bytes from its start
abbrev pub column_at : List ℕ → ℕ → ℕ
column_at text offset = column_after 1 (take offset text)

-- Where columns are counted for a number of a text: in the source for the source's, in the last other text for that of
-- this one, and else in a new text.
abbrev pub counted_text : (source : List ℕ) (last : ℕ) (other : List ℕ) → ℕ → List ℕ → List ℕ
counted_text source last other number text =
    if nat_eq number source_text then source else if nat_eq number last then other else text
