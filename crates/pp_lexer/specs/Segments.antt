-- The text cut into segments, from the left: blanks, tokens, and characters that begin no token (GLSL ES 3.20, section
-- 3.10, phase 7, and docs/RULES.md, Tokens 1, 2 and 6).
use Rattle.std.specs.Prelude.{ℕ, zero, suc, ◌==◌, if◌then◌else◌, List, [], ◌∷◌, Result, length, take, drop}
use Rattle.pp_lexer.specs.declared.token.PreprocessorError.{PreprocessorError}
use Rattle.pp_lexer.specs.declared.lexer.item.TokenValue.{TokenValue}
use Rattle.pp_lexer.specs.declared.lexer.char_iterator.Spot.{Spot}
use Rattle.pp_lexer.specs.declared.rules.Rules.{Rules}
use Rattle.pp_lexer.specs.Reading.{letters}
use Rattle.pp_lexer.specs.Words.{is_blank, word_at}

pub data Kind : Type 0 where
  blank : Kind
  comment : Kind
  item : Result TokenValue PreprocessorError → Kind

-- a segment: its kind, its first character and its last one
pub record Segment : Type 0 where
  pub kind : Kind
  pub first : Spot
  pub last : Spot

-- the last of these characters, or the one before them if there are none
abbrev pub last_of : Spot → List Spot → Spot
last_of s [] = s
last_of s (t ∷ ts) = last_of t ts

-- A blank is a segment by itself. A carriage return is the mark of a comment: the phases leave no other. Any other
-- character begins a word, or is a bad one.
abbrev pub kind_of : Rules → Spot → List Spot → Kind
kind_of rules s ss =
    if is_blank s.c then (if s.c == 13 then comment else blank) else item (word_at rules (letters (s ∷ ss))).value

abbrev pub taken_by : Rules → Spot → List Spot → ℕ
taken_by rules s ss = if is_blank s.c then 1 else (word_at rules (letters (s ∷ ss))).taken

-- the segment at the front of the characters
abbrev pub segment_at : Rules → Spot → List Spot → Segment
segment_at rules s ss =
    record { kind = kind_of rules s ss; first = s; last = last_of s (take (taken_by rules s ss) (s ∷ ss)) }

-- the first segment and those of the characters after it, at most `n` in all
abbrev pub segments_within : Rules → ℕ → List Spot → List Segment
segments_within rules zero ss = []
segments_within rules (suc n) [] = []
segments_within rules (suc n) (s ∷ ss) =
    segment_at rules s ss ∷ segments_within rules n (drop (taken_by rules s ss) (s ∷ ss))

-- no text has more segments than characters
unfoldable pub segments : Rules → List Spot → List Segment
segments rules ss = segments_within rules (length ss) ss
