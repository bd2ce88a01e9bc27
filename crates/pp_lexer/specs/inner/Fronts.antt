-- The front of a text whose bytes the phases leave as they are.
use Rattle.std.specs.Prelude.{◌≡◌, ℕ, ◌+◌, ◌-◌, ◌^◌, ◌<◌, ◌≤◌, Bool, not, ◌&&◌, ◌==◌, nat_lt, List, [], ◌∷◌, length}
use Rattle.std.specs.Str.{chars}
use Rattle.pp_lexer.specs.declared.lexer.char_iterator.Spot.{Spot}
use Rattle.pp_lexer.specs.Cursor.{Cursor}
use Rattle.pp_lexer.specs.Lines.{pieces}
use Rattle.pp_lexer.specs.Continuations.{continued}
use Rattle.pp_lexer.specs.Comments.{replaced}
use Rattle.pp_lexer.specs.inner.Readers.{placed_from}
use Rattle.pp_lexer.specs.Reading.{spots}

-- the characters of a text after the phases, if its first one has this line and begins at this byte
unfoldable pub spots_from : ℕ → ℕ → List ℕ → List Spot
spots_from line at text = spots at (replaced (at + length text) (continued (placed_from line at (pieces (chars text)))))

-- the reader of what is left of a source
abbrev pub left : ℕ → ℕ → List ℕ → Cursor
left line at text = record { rest = placed_from line at (pieces (chars text)); offset = at; total = at + length text }

-- these characters are what is left of a source
pub record IsLeft (line at : ℕ) (text : List ℕ) (rest : List Spot) : Type 0 where
  pub rest_is : rest ≡ spots_from line at text
  pub room : at + length text < 2 ^ 32 - 1
  pub lines : line ≤ at + 1

-- an ASCII character that no phase looks at: no newline, no backslash and no slash
abbrev pub is_plain : ℕ → Bool
is_plain b = nat_lt b 128 && (not (b == 10) && (not (b == 13) && (not (b == 92) && not (b == 47))))

-- a character that a line comment goes on with, whatever comes next, or a byte of one: no newline and no backslash
abbrev pub goes_on : ℕ → Bool
goes_on b = not (b == 10) && (not (b == 13) && not (b == 92))

-- an ASCII character that a line comment goes on with
abbrev pub is_straight : ℕ → Bool
is_straight b = nat_lt b 128 && goes_on b

-- a character that a block comment goes on with, whatever comes next, or a byte of one: no star, no newline and no
-- backslash
abbrev pub is_starless : ℕ → Bool
is_starless b = not (b == 10) && (not (b == 13) && (not (b == 92) && not (b == 42)))

-- an ASCII character that a block comment goes on with, whatever comes next, other than a newline
abbrev pub is_quiet : ℕ → Bool
is_quiet b = nat_lt b 128 && is_starless b

-- characters of one line, one byte each
abbrev pub run : ℕ → ℕ → List ℕ → List Spot
run line at [] = []
run line at (c ∷ cs) = record { c = c; line = line; begin = at; end = at + 1 } ∷ run line (at + 1) cs
