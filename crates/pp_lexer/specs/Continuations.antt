-- Lines that go on after a backslash: phase 6 of the logical phases of compilation, GLSL ES 3.20, section 3.10.
use Rattle.std.specs.Prelude.{Bool, not, ◌&&◌, ◌||◌, ◌==◌, List, map, filter}
use Rattle.pp_lexer.specs.Cursor.{Placed}
use Rattle.pp_lexer.specs.Lines.{is_newline}
use Rattle.pp_lexer.specs.Surroundings.{Surrounded, surrounded, begins_with}

abbrev pub is_backslash : Placed → Bool
is_backslash p = p.char == 92

-- a backslash directly before a newline, or a newline directly after a backslash
abbrev pub is_continuation : Surrounded Placed → Bool
is_continuation s =
    (is_backslash s.here && begins_with is_newline s.after) || (is_newline s.here && begins_with is_backslash s.before)

-- the characters without each backslash directly before a newline, and without that newline
unfoldable pub continued : List Placed → List Placed
continued ps = map (λ s. s.here) (filter (λ s. not (is_continuation s)) (surrounded ps))
