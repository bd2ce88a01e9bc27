-- Words on their lines. A text is a list of bytes; a line ends with LF, byte 10, and a space is byte 32.
use Rattle.std.specs.Prelude.{ℕ, Bool, true, false, List, [], ◌∷◌, ◌++◌, ◌+◌, ◌-◌, ◌^◌, nat_lt, if◌then◌else◌}
use Rattle.std.proofs.Math.ListN.{replicate}
use Rattle.glslpp_parts.specs.declared.layout.Gap.{Gap}
use Rattle.glslpp_parts.specs.declared.layout.Gap.TheVariants.{Space, Nothing}

-- what is written so far, the number of its last line, from 1, and whether a word is on that line
pub record Laid : Type 0 where
  pub text : List ℕ
  pub line : ℕ
  pub is_line_begun : Bool

-- what is written before a word: a space if it is needed and another word is on the line
abbrev pub gap_text : Bool → Gap → List ℕ
gap_text true Space = 32 ∷ []
gap_text true Nothing = []
gap_text false gap = []

-- moved to a line further down: with a line end for each line in between
abbrev pub moved : Laid → ℕ → Laid
moved laid line = record {
  text = laid.text ++ replicate (line - laid.line) 10;
  line = line;
  is_line_begun = false;
}

-- moved to the line, or unchanged if the line isn't further down
abbrev pub at_line : Laid → ℕ → Laid
at_line laid line = if nat_lt laid.line line then moved laid line else laid

-- with a word at the end
abbrev pub with_word : Laid → Gap → List ℕ → Laid
with_word laid gap word = record {
  text = laid.text ++ gap_text laid.is_line_begun gap ++ word;
  line = laid.line;
  is_line_begun = true;
}

-- with a word on its line, or after the last word if that line is already past
abbrev pub on_line : Laid → ℕ → Gap → List ℕ → Laid
on_line laid line gap word = with_word (at_line laid line) gap word

-- moved to the next line, unless its number doesn't fit in 32 bits
abbrev pub on_next_line : Laid → Laid
on_next_line laid = if nat_lt laid.line (2 ^ 32 - 1) then moved laid (laid.line + 1) else laid

-- moved to the next line if a word is on this one
abbrev pub on_free_line : Laid → Laid
on_free_line laid = if laid.is_line_begun then on_next_line laid else laid

-- with a directive alone on its line, or, if that line is past or used, on the next free one
abbrev pub with_directive : Laid → ℕ → List ℕ → Laid
with_directive laid line word = on_next_line (on_line (on_free_line laid) line Space word)

-- with one more line, after which the lines are counted from this one
abbrev pub with_mark : Laid → List ℕ → ℕ → Laid
with_mark laid mark line = record {
  text = laid.text ++ (if laid.is_line_begun then 10 ∷ [] else []) ++ mark ++ 10 ∷ [];
  line = line;
  is_line_begun = false;
}

-- the text, with a last line end if a word is on its last line
abbrev pub finished : Laid → List ℕ
finished laid = laid.text ++ (if laid.is_line_begun then 10 ∷ [] else [])
