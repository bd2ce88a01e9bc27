-- The words of a file of words, as gcc cuts them (libiberty: `buildargv`). A `\` at the end is nothing here, and an
-- empty word there.
use Rattle.std.specs.Prelude.{ℕ, Bool, ◌&&◌, ◌||◌, if◌then◌else◌, Option, Some, None, unwrap_or, List, [], ◌∷◌}
use Rattle.std.specs.Prelude.{nat_eq, nat_lt}

-- a character after a `\`, which is of a word, or another
pub data Letter : Type 0 where
  escaped : ℕ → Letter
  plain : ℕ → Letter

-- a `\` takes the character after it
abbrev pub letters : List ℕ → List Letter
letters [] = []
letters (c ∷ []) = if nat_eq c 92 then [] else plain c ∷ []
letters (c ∷ d ∷ rest) = if nat_eq c 92 then escaped d ∷ letters rest else plain c ∷ letters (d ∷ rest)

-- `"` and `'`
abbrev pub is_quotation_mark : ℕ → Bool
is_quotation_mark c = nat_eq c 34 || nat_eq c 39

-- a tab, the ends of a line and of a page, which are 9 to 13, and a blank
abbrev pub is_white_space : ℕ → Bool
is_white_space c = nat_lt 8 c && nat_lt c 14 || nat_eq c 32

-- what letters give: what comes before the first white space, if there is something, and the words after it
pub record Cut : Type 0 where
  pub word : Option (List ℕ)
  pub words : List (List ℕ)

abbrev pub all_words : Cut → List (List ℕ)
all_words cut = by cut.word
  where
    by : Option (List ℕ) → List (List ℕ)
    by None = cut.words
    by (Some word) = word ∷ cut.words

-- a word begins, if none does
abbrev pub begun : Cut → Cut
begun cut = record cut { word = Some (unwrap_or cut.word []) }

-- a word begins with this character
abbrev pub with_character : ℕ → Cut → Cut
with_character c cut = record cut { word = Some (c ∷ unwrap_or cut.word []) }

-- what letters give after a quotation mark that is open, if there is one
abbrev pub cut : Option ℕ → List Letter → Cut
cut quote [] = record { word = None; words = [] }
cut quote (escaped c ∷ rest) = with_character c (cut quote rest)
cut (Some mark) (plain c ∷ rest) = if nat_eq c mark then cut None rest else with_character c (cut (Some mark) rest)
cut None (plain c ∷ rest) =
    if is_quotation_mark c then begun (cut (Some c) rest)
    else if is_white_space c then record { word = None; words = all_words (cut None rest) }
    else with_character c (cut None rest)

-- the words of a text
abbrev pub words_of_file : List ℕ → List (List ℕ)
words_of_file text = all_words (cut None (letters text))
