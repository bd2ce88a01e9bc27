-- Where the comments of a source are: the stretches of the marks of phase 7 (GLSL ES 3.20, section 3.10).
use Rattle.std.specs.Prelude.{ℕ, ◌==◌, if◌then◌else◌, List, [], ◌∷◌, Option, Some, None, length}
use Rattle.std.specs.Str.{chars}
use Rattle.pp_lexer.specs.Comments.{replaced}
use Rattle.pp_lexer.specs.Continuations.{continued}
use Rattle.pp_lexer.specs.Cursor.{Placed}
use Rattle.pp_lexer.specs.Lines.{lines}
use Rattle.pp_lexer.specs.declared.token.Location.{Location}

-- the stretches of the marks among these characters, if the first character's stretch begins at `at`; each has the line
-- of the comment's first slash
abbrev pub marks_from : ℕ → List Placed → List Location
marks_from at [] = []
marks_from at (p ∷ ps) =
    if p.char == 13 then record { start = at; end = p.end; line = p.line } ∷ marks_from p.end ps
    else marks_from p.end ps

-- the places of a source's comments, in order
abbrev pub comment_places : List ℕ → List Location
comment_places source = marks_from 0 (replaced (length source) (continued (lines (chars source))))

-- the first place, and those after it
abbrev pub first_place : List Location → Option Location
first_place [] = None
first_place (place ∷ places) = Some place

abbrev pub after_first : List Location → List Location
after_first [] = []
after_first (place ∷ places) = places
