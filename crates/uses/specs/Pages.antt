-- What a browser shows of a page of text, tags, `&lt;` and `&amp;` (HTML, sections 13.1.2 and 13.1.4).
use Rattle.std.specs.Prelude.{◌≡◌, ◌≢◌, ℕ, Bool, true, not, ◌==◌, if◌then◌else◌, List, [], ◌∷◌, ◌++◌, codes, take}
use Rattle.std.specs.Prelude.{string_bytes}
use Rattle.std.specs.List.{list_all}
use Rattle.std.specs.Str.{chars, IsCharBoundary, IsUtf8}
use Rattle.uses.specs.declared.highlighter.Page.{Page}

-- whether none of the characters ends a tag
abbrev pub stay_in_tag : List ℕ → Bool
stay_in_tag cs = list_all (λ c. not (c == 62)) cs

-- A page shows a text: a tag shows nothing, `&lt;` shows `<`, `&amp;` shows `&`, and any other character shows itself.
pub data Shows : List ℕ → List ℕ → Type 0 where
  nothing : Shows [] []
  tag : (inside page text : List ℕ)
      → stay_in_tag inside ≡ true
      → Shows page text
      → Shows (codes "<" ++ inside ++ codes ">" ++ page) text
  less_than : (page text : List ℕ)
      → Shows page text
      → Shows (codes "&lt;" ++ page) (codes "<" ++ text)
  ampersand : (page text : List ℕ)
      → Shows page text
      → Shows (codes "&amp;" ++ page) (codes "&" ++ text)
  other : (c : ℕ) (page text : List ℕ)
      → c ≢ 60
      → c ≢ 38
      → Shows page text
      → Shows (c ∷ page) (c ∷ text)

-- a character as it is written into a page
abbrev pub escaped_character : ℕ → List ℕ
escaped_character c = if c == 60 then codes "&lt;" else if c == 38 then codes "&amp;" else c ∷ []

-- what was written shows the source up to the byte that was reached
pub record IsWritten (page : Page) : Type 0 where
  pub is_text : IsUtf8 page.source.now
  pub reached : IsCharBoundary page.source.now page.done
  pub shows : Shows (chars (string_bytes page.text)) (chars (take page.done page.source.now))
