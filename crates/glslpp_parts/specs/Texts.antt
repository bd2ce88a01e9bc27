-- A source, the contents of the definitions before it, and the files that it includes.
use Rattle.std.specs.Prelude.{◌≡◌, ◌≢◌, ◌⊎◌, ℕ, Bool, true, false, List, [], ◌∷◌, ◌++◌, codes, map}
use Rattle.std.specs.Char.{encode_utf8}
use Rattle.std.specs.Prelude.{◌==◌, length, not}
use Rattle.std.proofs.Math.ListN.{get_or}
use Rattle.glslpp_parts.specs.declared.texts.File.{File}

-- whether a file has `#line` lines with names
abbrev pub has_marks : File → Bool
has_marks file = not (length file.marks.now == 0)

-- a text after the source, whether it is a file's, and whether that has `#line` lines with names
pub record Added : Type 0 where
  pub text : List ℕ
  pub is_file : Bool
  pub is_marked : Bool

-- the source, whether it has `#line` lines with names, and the other texts in the order in which they are added
pub record Texts : Type 0 where
  pub source : List ℕ
  pub is_marked : Bool
  pub added : List Added

-- the number of the source
abbrev pub source_text : ℕ
source_text = 0

-- the text with this number: the added ones have the numbers from 1 on, and what is added later is 1, as the macros of
-- extensions are
abbrev pub text_of : Texts → ℕ → List ℕ
text_of texts number = get_or (texts.source ∷ map (λ added. added.text) texts.added) number (codes "1")

-- whether the text with this number is a file's: the source is one
abbrev pub is_file : Texts → ℕ → Bool
is_file texts number = get_or (true ∷ map (λ added. added.is_file) texts.added) number false

-- whether the text with this number has `#line` lines with names
abbrev pub is_marked : Texts → ℕ → Bool
is_marked texts number = get_or (texts.is_marked ∷ map (λ added. added.is_marked) texts.added) number false

-- with one more content
abbrev pub with_content : Texts → List ℕ → Texts
with_content texts content =
    record texts { added = texts.added ++ record { text = content; is_file = false; is_marked = false } ∷ [] }

-- with one more file
abbrev pub with_file : Texts → List ℕ → Bool → Texts
with_file texts file marked =
    record texts { added = texts.added ++ record { text = file; is_file = true; is_marked = marked } ∷ [] }

-- the mark U+FEFF
abbrev pub mark : List ℕ
mark = encode_utf8 65279

-- the rest of a text that begins with the mark, and otherwise the whole text
abbrev pub IsAfterMark : List ℕ → List ℕ → Type 0
IsAfterMark whole rest = (whole ≡ mark ++ rest) ⊎ (((more : List ℕ) → whole ≢ mark ++ more) × (rest ≡ whole))
