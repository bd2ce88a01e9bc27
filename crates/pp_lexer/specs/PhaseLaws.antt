-- Laws of the character phases, each for every source.
use Rattle.std.specs.Prelude.{◌≡◌, ℕ, ◌+◌, ◌≤◌, Bool, true, false, ◌&&◌, List, [], ◌∷◌, ◌++◌, Some, AllPairs, slice_get}
use Rattle.std.specs.Prelude.{count_by, take, length}
use Rattle.std.specs.Str.{chars, IsUtf8}
use Rattle.std.specs.Char.{len_utf8}
use Rattle.pp_lexer.specs.Cursor.{Placed, last_end}
use Rattle.pp_lexer.specs.Lines.{is_line_break, is_pair, is_newline, lines}
use Rattle.pp_lexer.specs.Continuations.{is_backslash, continued}
use Rattle.pp_lexer.specs.Comments.{replaced}

-- the characters of a source, given as its bytes, after each phase
abbrev pub lines_of : List ℕ → List Placed
lines_of source = lines (chars source)

abbrev pub continued_of : List ℕ → List Placed
continued_of source = continued (lines_of source)

abbrev pub replaced_of : List ℕ → List Placed
replaced_of source = replaced (length source) (continued_of source)

abbrev pub ends_in_break : List ℕ → Bool
ends_in_break [] = false
ends_in_break (c ∷ []) = is_line_break c
ends_in_break (c ∷ d ∷ cs) = ends_in_break (d ∷ cs)

-- A pair with no line break right before it is one newline.
abbrev pub PairsCountOnce : Type 0
PairsCountOnce =
    (front back : List ℕ) (c d : ℕ)
    → ends_in_break front ≡ false
    → is_pair c d ≡ true
    → count_by is_newline (lines (front ++ (c ∷ d ∷ back)))
    ≡ count_by is_newline (lines front) + 1 + count_by is_newline (lines back)

-- The line of a character is one more than the number of newlines before it.
abbrev pub LinesCountNewlines : Type 0
LinesCountNewlines =
    (cs : List ℕ) (n : ℕ) (p : Placed)
    → slice_get (lines cs) n ≡ Some p
    → p.line ≡ count_by is_newline (take n (lines cs)) + 1

-- the line of each character is at most that of any later one
abbrev pub NeverFalls : List Placed → Type 0
NeverFalls ps = AllPairs (λ p q. p.line ≤ q.line) ps

-- Lines never fall along the characters of any phase.
pub record LinesNeverFall (source : List ℕ) : Type 0 where
  pub lines : NeverFalls (lines_of source)
  pub continuations : NeverFalls (continued_of source)
  pub comments : NeverFalls (replaced_of source)

abbrev pub SourcesNeverFall : Type 0
SourcesNeverFall = (source : List ℕ) → IsUtf8 source → LinesNeverFall source

-- Each stretch begins where the one before it ends, the first at `at`. Each has room for its character, and the last
-- one ends within `total` bytes.
abbrev pub StretchesFollow : ℕ → ℕ → List Placed → Type 0
StretchesFollow at total [] = at ≤ total
StretchesFollow at total (p ∷ ps) = (at + len_utf8 p.char ≤ p.end) × StretchesFollow p.end total ps

-- the last two characters are a backslash and a newline
abbrev pub ends_in_continuation : List Placed → Bool
ends_in_continuation [] = false
ends_in_continuation (p ∷ []) = false
ends_in_continuation (p ∷ q ∷ []) = is_backslash p && is_newline q
ends_in_continuation (p ∷ q ∷ r ∷ ps) = ends_in_continuation (q ∷ r ∷ ps)

-- The stretches cut a source into consecutive parts from its first byte on. They reach its last byte: in phase 5
-- always, and after it unless the source ends in a continuation, whose bytes are left over if no open comment takes
-- them.
pub record StretchesTile (source : List ℕ) : Type 0 where
  pub lines_follow : StretchesFollow 0 (length source) (lines_of source)
  pub lines_end : last_end 0 (lines_of source) ≡ length source
  pub continuations_follow : StretchesFollow 0 (length source) (continued_of source)
  pub continuations_end : ends_in_continuation (lines_of source) ≡ false
      → last_end 0 (continued_of source) ≡ length source
  pub comments_follow : StretchesFollow 0 (length source) (replaced_of source)
  pub comments_end : ends_in_continuation (lines_of source) ≡ false → last_end 0 (replaced_of source) ≡ length source

abbrev pub SourcesAreTiled : Type 0
SourcesAreTiled = (source : List ℕ) → IsUtf8 source → StretchesTile source

-- No phase makes a list longer, and the first has at most one character a byte.
pub record PhasesShorten (source : List ℕ) : Type 0 where
  pub lines : length (lines_of source) ≤ length source
  pub continuations : length (continued_of source) ≤ length (lines_of source)
  pub comments : length (replaced_of source) ≤ length (continued_of source)

abbrev pub SourcesShorten : Type 0
SourcesShorten = (source : List ℕ) → IsUtf8 source → PhasesShorten source
