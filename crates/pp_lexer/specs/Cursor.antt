-- The state of a reader of characters.
use Rattle.std.specs.Prelude.{ℕ, Bool, false, ◌==◌, List, [], ◌∷◌, Option, Some, None, drop, take}

-- A character, its line, and the byte at which its stretch of the source ends. The stretch begins where the one before
-- it ends, or at 0.
pub record Placed : Type 0 where
  pub char : ℕ
  pub line : ℕ
  pub end : ℕ

-- the characters to come, the byte at which the stretch of the last one taken ended, and the number of bytes of the
-- source
pub record Cursor : Type 0 where
  pub rest : List Placed
  pub offset : ℕ
  pub total : ℕ

abbrev pub start_of : List Placed → ℕ → Cursor
start_of items total = record { rest = items; offset = 0; total = total }

abbrev pub first_of : List Placed → Option (ℕ × ℕ)
first_of [] = None
first_of (p ∷ ps) = Some (p.char, p.line)

-- the next character and its line
abbrev pub first : Cursor → Option (ℕ × ℕ)
first c = first_of c.rest

abbrev pub after_of : List Placed → ℕ → Cursor
after_of [] total = record { rest = []; offset = total; total = total }
after_of (p ∷ ps) total = record { rest = ps; offset = p.end; total = total }

-- the reader after its next character; if there is none, at the end of the source
abbrev pub after : Cursor → Cursor
after c = after_of c.rest c.total

-- the end of the last character's stretch, or `at` if there are no characters
abbrev pub last_end : ℕ → List Placed → ℕ
last_end at [] = at
last_end at (p ∷ ps) = last_end p.end ps

-- the reader that many characters further on
abbrev pub passed : ℕ → Cursor → Cursor
passed n c = record { rest = drop n c.rest; offset = last_end c.offset (take n c.rest); total = c.total }

-- the reader at its end
abbrev pub finished : Cursor → Cursor
finished c = record { rest = []; offset = c.total; total = c.total }

-- whether there is an item, and it has this character
abbrev pub is_item : Option (ℕ × ℕ) → ℕ → Bool
is_item None c = false
is_item (Some p) c = p.0 == c
