-- The state of the reader of characters: the characters after the phases, each with its line and its place.
use Rattle.std.specs.Prelude.{◌≡◌, ℕ, zero, suc, ◌+◌, List, [], ◌∷◌, Option, Some, None}
use Rattle.std.specs.Char.{len_utf8}
use Rattle.pp_lexer.specs.Cursor.{Placed}
use Rattle.pp_lexer.specs.declared.lexer.char_iterator.Spot.{Spot}

-- the characters to come, and the one taken last
pub record Reading : Type 0 where
  pub rest : List Spot
  pub last : Spot

-- The characters with their places. The first begins at `at`, and each other where the stretch before it ends. A
-- character ends as many bytes further on as it has in UTF-8.
abbrev pub spots : ℕ → List Placed → List Spot
spots at [] = []
spots at (p ∷ ps) = record { c = p.char; line = p.line; begin = at; end = at + len_utf8 p.char } ∷ spots p.end ps

abbrev pub first_of : List Spot → Option Spot
first_of [] = None
first_of (s ∷ ss) = Some s

abbrev pub spots_after_first : List Spot → List Spot
spots_after_first [] = []
spots_after_first (s ∷ ss) = ss

-- `spot` is the first character of `all`, and `rest` are those after it
pub record IsAhead (spot : Spot) (rest all : List Spot) : Type 0 where
  pub first : Some spot ≡ first_of all
  pub after : rest ≡ spots_after_first all

abbrev pub first_char : Reading → Option Spot
first_char r = first_of r.rest

abbrev pub past : List Spot → Spot → Reading
past [] last = record { rest = []; last = last }
past (s ∷ ss) last = record { rest = ss; last = s }

abbrev pub after_first : Reading → Reading
after_first r = past r.rest r.last

-- the characters alone
abbrev pub letters : List Spot → List ℕ
letters [] = []
letters (s ∷ ss) = s.c ∷ letters ss

-- the reader that many characters further on, or at its end
abbrev pub advanced_of : ℕ → List Spot → Spot → Reading
advanced_of n [] last = record { rest = []; last = last }
advanced_of zero (s ∷ ss) last = record { rest = s ∷ ss; last = last }
advanced_of (suc n) (s ∷ ss) last = advanced_of n ss s

abbrev pub advanced : ℕ → Reading → Reading
advanced n r = advanced_of n r.rest r.last
