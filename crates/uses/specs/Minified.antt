-- A preprocessed source without the spaces that its tokens do not need.
use Rattle.std.specs.Prelude.{ℕ, Bool, false, not, ◌&&◌, ◌||◌, ◌==◌, if◌then◌else◌, List, [], ◌∷◌, ◌++◌, codes}
use Rattle.std.specs.Prelude.{Option, Some, None, slice_get}
use Rattle.std.specs.List.{last_or}
use Rattle.std.specs.Char.Unicode.Alphabetic.{is_alphabetic}
use Rattle.std.specs.Char.Unicode.Numeric.{is_numeric}
use Rattle.pp_lexer.specs.ItemText.{item_text}
use Rattle.pp_lexer.specs.TokenValue.{is_ordinary}
use Rattle.pp_lexer.specs.declared.token.Token.{Token}
use Rattle.pp_lexer.specs.declared.token.TokenValue.{TokenValue}

-- identifiers and numbers may have the character: a letter, a digit, `_` or `.`
abbrev pub is_of_word : ℕ → Bool
is_of_word c = (is_alphabetic c || is_numeric c) || (c == 95 || c == 46)

abbrev pub is_among : List ℕ → ℕ → Bool
is_among [] c = false
is_among (d ∷ ds) c = (c == d) || is_among ds c

-- the character is a punctuator that is part of no longer one
abbrev pub is_alone : ℕ → Bool
is_alone c = is_among (codes "()[]{};,:?~") c

-- both characters are of words, or neither is
abbrev pub are_alike : ℕ → ℕ → Bool
are_alike c d = if is_of_word c then is_of_word d else not (is_of_word d)

-- a word that ends with one character and one that begins with the other could be read as one
abbrev pub may_join : ℕ → ℕ → Bool
may_join last first = are_alike last first && (not (is_alone last) && not (is_alone first))

-- What is put between the last character of a text and the first one of the word after it: nothing at the beginning of
-- a line, a newline before a directive, and a space between words that could be read as one.
abbrev pub separator_at : ℕ → ℕ → List ℕ
separator_at last first =
    if last == 10 then []
    else if first == 35 then 10 ∷ []
    else if may_join last first then 32 ∷ [] else []

-- the same; nothing if either is missing
abbrev pub separator_of : Option ℕ → Option ℕ → List ℕ
separator_of (Some last) (Some first) = separator_at last first
separator_of _ _ = []

-- what is put between a text and the word after it
abbrev pub separator : List ℕ → List ℕ → List ℕ
separator text word = separator_of (last_or None text) (slice_get word 0)

-- an item's text at the end of a text, with its separator before it; a directive ends its line
abbrev pub with_item : List ℕ → TokenValue → List ℕ
with_item text value =
    text ++ separator text (item_text value) ++ item_text value ++ (if is_ordinary value then [] else 10 ∷ [])

-- the items one after another at the end of a text
abbrev pub with_items : List ℕ → List Token → List ℕ
with_items text [] = text
with_items text (t ∷ ts) = with_items (with_item text t.value) ts

-- the text of all items
abbrev pub minified_text : List Token → List ℕ
minified_text tokens = with_items [] tokens
