-- What is written of a page.
use Rattle.std.specs.Prelude.{◌≡◌, ℕ, List, ◌++◌, string_bytes, take}
use Rattle.std.specs.Str.{chars, IsCharBoundary, IsUtf8}
use Rattle.glslpp_html.specs.Shown.{Attributes, Shows}
use Rattle.glslpp_html.specs.declared.source.Writer.{Writer}

-- more of a page that shows this text, whatever was before
abbrev pub ShowsMore : (old new text : List ℕ) → Type 0
ShowsMore old new text = (shown : List ℕ) × (chars new ≡ chars old ++ shown) × Shows shown text

-- the same with attributes behind it
abbrev pub HasAttributes : (old new : List ℕ) → Type 0
HasAttributes old new = (attributes : List ℕ) × (chars new ≡ chars old ++ attributes) × Attributes attributes

-- what was written shows the source up to the byte that was reached
pub record IsWritten (writer : Writer) : Type 0 where
  pub is_text : IsUtf8 writer.source.now
  pub reached : IsCharBoundary writer.source.now writer.done
  pub shows : Shows (chars (string_bytes writer.text)) (chars (take writer.done writer.source.now))
