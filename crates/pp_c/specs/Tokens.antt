-- The entries of tokens and errors.
use Rattle.std.specs.Prelude.{ℕ, ℤ, pos, ◌+◌, bit_or, List, [], ◌∷◌, map, length, Option, Some, None}
use Rattle.std.specs.List.{filter}
use Rattle.std.specs.Str.{encode_utf8_all}
use Rattle.pp_rs.specs.Entry.{Entry as Held, Leaf, ident, integer, float, punct, is_outermost}
use Rattle.pp_rs.specs.Preorder.{inner, leaf_of}
use Rattle.pp_rs.specs.Punctuators.{punctuator}
use Rattle.pp_rs.specs.declared.token.Location.{Location}
use Rattle.pp_rs.specs.declared.token.PreprocessorError.{PreprocessorError}
use Rattle.pp_rs.specs.declared.token.PreprocessorError.TheVariants.{UnexpectedToken}
use Rattle.pp_rs.specs.declared.token.TokenValue.{TokenValue}
use Rattle.pp_c.specs.Entries.{Entry, bare, with_text, in_32_bits}
use Rattle.pp_c.specs.Numbers.{error_number, error_kind, place_kind, include_line_kind, kind_of, flags_of}
use Rattle.pp_c.specs.declared.items.Item.{Item}

-- an item with a place, a kind and flags, and 0 in all its other fields
abbrev pub item_at : Location → ℕ → ℕ → Item
item_at place kind flags = record {
  kind = kind;
  error = 0;
  flags = flags;
  children = 0;
  width = pos 0;
  start = place.start;
  end = place.end;
  line = place.line;
  text_length = 0;
  value = 0;
}

-- the width of a number in bits, or 0
abbrev pub width_of : Leaf → ℤ
width_of (integer i) = i.width
width_of (float text width) = width
width_of leaf = pos 0

-- the value of an integer, or 0
abbrev pub value_of : Leaf → ℕ
value_of (integer i) = i.value
value_of leaf = 0

-- the text of a name, a float or a punctuator
abbrev pub text_of_leaf : Leaf → Option (List ℕ)
text_of_leaf (ident text) = Some text
text_of_leaf (float text width) = Some text
text_of_leaf (punct p) = Some (punctuator p)
text_of_leaf leaf = None

-- an item with its text, if it has one
abbrev pub entry_with : Item → Option (List ℕ) → Entry
entry_with item None = bare item
entry_with item (Some text) = with_text item (encode_utf8_all text)

-- one token, without the tokens inside it: with a place, flags beside its own, and a number of children
abbrev pub leaf_entry : Location → ℕ → ℕ → Leaf → Entry
leaf_entry place flags children leaf =
    entry_with (record (item_at place (kind_of leaf) (bit_or flags (flags_of leaf))) {
      children = children;
      width = width_of leaf;
      value = value_of leaf;
    }) (text_of_leaf leaf)

-- the tokens of a directive's line
abbrev pub line_of : TokenValue → List Held
line_of value = filter is_outermost (inner value)

abbrev pub held_entry : Held → Entry
held_entry token = leaf_entry token.location 0 0 token.leaf

-- a token, and after it, as its children, the tokens of its directive's line
abbrev pub token_entries : Location → TokenValue → List Entry
token_entries place value =
    leaf_entry place 0 (in_32_bits (length (line_of value))) (leaf_of value) ∷
    map held_entry (line_of value)

-- the token that an error carries
abbrev pub carried_entries : Location → PreprocessorError → List Entry
carried_entries place (UnexpectedToken value) = token_entries place value
carried_entries place error = []

-- an error with the place in its item and a number of children
abbrev pub error_entry : Location → ℕ → PreprocessorError → Entry
error_entry place children error =
    bare (record (item_at place error_kind 0) { error = error_number error; children = children })

-- the true place of an error in the source
abbrev pub place_entry : Location → Entry
place_entry place = bare (item_at place place_kind 0)

-- an error with the place in its item, and after it its children: its true place in the source, and the token that it
-- carries
abbrev pub error_entries : PreprocessorError → Location → Location → List Entry
error_entries error place true_place =
    error_entry place (in_32_bits (1 + length (carried_entries place error))) error ∷
    place_entry true_place ∷ carried_entries place error

-- the error of an `#include` line that asks for its text, and after it its children: its true place in the source, and
-- the rest of the line
abbrev pub asking_entries : PreprocessorError → Location → Location → Location → List Entry
asking_entries error place true_place rest =
    error_entry place 2 error ∷ place_entry true_place ∷ bare (item_at rest include_line_kind 0) ∷ []
