-- The source as characters with their lines: phases 4 and 5 of the logical phases of
-- compilation, GLSL ES 3.20, section 3.10.
use Rattle.std.specs.Prelude.{ℕ, ◌+◌, Bool, ◌&&◌, ◌||◌, ◌==◌, if◌then◌else◌, List, [], ◌∷◌, map, sum_by, count_by}
use Rattle.std.specs.Char.{len_utf8}
use Rattle.pp_lexer.specs.Cursor.{Placed}
use Rattle.pp_lexer.specs.Surroundings.{Surrounded, surrounded}

-- a line feed or a carriage return
abbrev pub is_line_break : ℕ → Bool
is_line_break c = (c == 10) || (c == 13)

-- a line feed and a carriage return, in either order
abbrev pub is_pair : ℕ → ℕ → Bool
is_pair c d = ((c == 10) && (d == 13)) || ((c == 13) && (d == 10))

-- a character, and how many bytes of the source it takes
pub record Piece : Type 0 where
  pub char : ℕ
  pub bytes : ℕ

-- a newline is a line feed, whatever it was in the source
abbrev pub piece : ℕ → Piece
piece c = if is_line_break c then record { char = 10; bytes = 1 } else record { char = c; bytes = len_utf8 c }

-- from left to right each pair is one newline, and so is each other line feed or carriage return
abbrev pub pieces : List ℕ → List Piece
pieces [] = []
pieces (c ∷ []) = piece c ∷ []
pieces (c ∷ d ∷ cs) = if is_pair c d then record { char = 10; bytes = 2 } ∷ pieces cs else piece c ∷ pieces (d ∷ cs)

-- The line of a character is one more than the number of newlines before it. Its stretch ends after all bytes up to and
-- with its own.
abbrev pub placed : Surrounded Piece → Placed
placed s = record {
  char = s.here.char;
  line = count_by (λ p. p.char == 10) s.before + 1;
  end = sum_by (λ p. p.bytes) s.before + s.here.bytes;
}

abbrev pub is_newline : Placed → Bool
is_newline p = p.char == 10

-- the source as a list of characters, each with its line and its stretch
unfoldable pub lines : List ℕ → List Placed
lines cs = map placed (surrounded (pieces cs))
