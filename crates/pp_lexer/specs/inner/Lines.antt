-- Parts of lines, under names of their own.
use Rattle.std.specs.Prelude.{ℕ, ◌==◌, Bool}
use Rattle.pp_lexer.specs.Lines.{Piece}

abbrev pub newline_piece : ℕ → Piece
newline_piece n = record { char = 10; bytes = n }

abbrev pub is_newline_piece : Piece → Bool
is_newline_piece p = p.char == 10
