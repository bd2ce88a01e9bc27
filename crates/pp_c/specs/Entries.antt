-- Entries: items in C, each with its text, and how they are laid out in the caller's memory.
use Rattle.std.specs.Prelude.{ℕ, ◌+◌, ◌-◌, ◌^◌, min, List, [], ◌∷◌, ◌++◌, drop, length}
use Rattle.std.specs.List.{flat_map}
use Rattle.pp_c.specs.declared.items.Item.{Item}
use Rattle.pp_c.specs.declared.items.Sizes.{Sizes}

-- an item without a text; or an item with its text in UTF-8, which doesn't say yet where the text begins or how long it
-- is
pub data Entry : Type 0 where
  bare : Item → Entry
  with_text : Item → List ℕ → Entry

-- the bytes of the entry's text
abbrev pub text_of : Entry → List ℕ
text_of (bare item) = []
text_of (with_text item text) = text

-- a count in 32 bits, or the greatest such number if it is larger
abbrev pub in_32_bits : ℕ → ℕ
in_32_bits count = min count (2 ^ 32 - 1)

-- a count in 64 bits, or the greatest such number if it is larger
abbrev pub in_64_bits : ℕ → ℕ
in_64_bits count = min count (2 ^ 64 - 1)

-- the item, if its text begins here
abbrev pub placed : ℕ → Entry → Item
placed start (bare item) = item
placed start (with_text item text) = record item { value = start; text_length = in_32_bits (length text) }

-- the items of entries whose texts follow one another, the first at this start
abbrev pub items_from : ℕ → List Entry → List Item
items_from start [] = []
items_from start (entry ∷ entries) = placed start entry ∷ items_from (start + length (text_of entry)) entries

-- their texts, one after another
abbrev pub texts_of : List Entry → List ℕ
texts_of entries = flat_map text_of entries

-- how much room the entries take
abbrev pub room_of : List Entry → Sizes
room_of entries = record {
  items = in_64_bits (length entries);
  texts = in_64_bits (length (texts_of entries));
}

-- the list, with others written over its front
abbrev pub put_over : {A : Type 0} → List A → List A → List A
put_over more old = more ++ drop (length more) old
