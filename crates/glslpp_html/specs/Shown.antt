-- What a browser shows of a page of text, tags and character references: HTML, sections 13.1.2 and 13.1.4.
use Rattle.std.specs.Prelude.{◌≡◌, ◌≢◌, ℕ, Bool, true, not, ◌&&◌, ◌==◌, if◌then◌else◌, List, [], ◌∷◌, ◌++◌, codes}
use Rattle.std.specs.Prelude.{nat_eq}
use Rattle.std.specs.Cmp.Lexicographic.{pointwise}
use Rattle.std.specs.List.{list_all, list_any}

-- the elements of a page, whose tags show nothing
abbrev pub is_element : List ℕ → Bool
is_element name =
    list_any (pointwise nat_eq name)
    (codes "span" ∷ codes "a" ∷ codes "details" ∷ codes "summary" ∷ codes "div" ∷ codes "h2" ∷ [])

-- The attributes of a page, up to their values. None runs or loads anything: a link leads to a place in the page or to
-- a file beside it.
abbrev pub is_beginning : List ℕ → Bool
is_beginning beginning =
    list_any (pointwise nat_eq beginning)
    (codes " class=\"" ∷ codes " id=\"" ∷ codes " title=\"" ∷ codes " tabindex=\"" ∷ codes " data-note=\""
    ∷ codes " href=\"#" ∷ codes " href=\"./" ∷ [])

-- what the value of an attribute has between its quotation marks
abbrev pub is_value_character : ℕ → Bool
is_value_character c = not (c == 34) && not (c == 62)

-- attributes, each as ` name="value"`
pub data Attributes : List ℕ → Type 0 where
  none : Attributes []
  more : (beginning value rest : List ℕ)
      → is_beginning beginning ≡ true
      → list_all is_value_character value ≡ true
      → Attributes rest
      → Attributes (beginning ++ value ++ codes "\"" ++ rest)

-- what a tag has between `<` and `>`
pub data IsTag : List ℕ → Type 0 where
  opening : (name attributes : List ℕ) → is_element name ≡ true → Attributes attributes → IsTag (name ++ attributes)
  closing : (name : List ℕ) → is_element name ≡ true → IsTag (codes "/" ++ name)

-- A page shows a text: a tag shows nothing, a character reference shows its character, and U+FFFD stands for the
-- character NUL, which no page can have. Any other character but `<`, `&` and a carriage return shows itself.
pub data Shows : List ℕ → List ℕ → Type 0 where
  nothing : Shows [] []
  tag : (inside page text : List ℕ) → IsTag inside → Shows page text
      → Shows (codes "<" ++ inside ++ codes ">" ++ page) text
  less_than : (page text : List ℕ) → Shows page text → Shows (codes "&lt;" ++ page) (codes "<" ++ text)
  ampersand : (page text : List ℕ) → Shows page text → Shows (codes "&amp;" ++ page) (codes "&" ++ text)
  carriage_return : (page text : List ℕ) → Shows page text → Shows (codes "&#13;" ++ page) (13 ∷ text)
  nul : (page text : List ℕ) → Shows page text → Shows (65533 ∷ page) (0 ∷ text)
  other : (c : ℕ) (page text : List ℕ) → c ≢ 60 → c ≢ 38 → c ≢ 13 → c ≢ 0 → Shows page text
      → Shows (c ∷ page) (c ∷ text)

-- a character as it is written into the text of a page
abbrev pub escaped_character : ℕ → List ℕ
escaped_character c =
    if c == 60 then codes "&lt;" else if c == 38 then codes "&amp;" else if c == 13 then codes "&#13;"
    else if c == 0 then 65533 ∷ [] else c ∷ []

-- a character as it is written into the value of an attribute
abbrev pub value_character : ℕ → List ℕ
value_character c = if c == 34 then codes "&quot;" else if c == 62 then codes "&gt;" else escaped_character c

-- a character of a file's name as it is written into a link: those that mean something there by their numbers
abbrev pub link_character : ℕ → List ℕ
link_character c =
    if c == 37 then codes "%25" else if c == 35 then codes "%23" else if c == 63 then codes "%3F"
    else if c == 92 then codes "%5C" else c ∷ []
