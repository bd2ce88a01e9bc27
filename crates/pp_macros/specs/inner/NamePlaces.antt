-- Lists of names without doubles, and the hash table that finds each name.
use Rattle.std.specs.Prelude.{◌≡◌, ℕ, ◌+◌, ◌-◌, ◌*◌, ◌%◌, ◌^◌, ◌<◌, ◌≤◌, ◌⊎◌, List, [], length, Option, Some, None}
use Rattle.std.specs.Prelude.{map, fold, bit_and, bit_xor, position, slice_index_or, string_bytes}
use Rattle.std.specs.Map.{lookup}
use Rattle.std.specs.Str.{chars, encode_utf8_all}
use Rattle.std.specs.declared.rc.Rc.{Rc}
use Rattle.std.specs.declared.string.String.{String}
use Rattle.pp_model.specs.Names.{Name, is_same_name}
use Rattle.pp_macros.specs.declared.names.table.Place.{Place}

-- the names that texts are
abbrev pub names_of : {Z : Type 0} → List (Rc Name Z) → List Name
names_of {Z} texts = map (λ (text : Rc Name Z). text.value) texts

-- no two names are the same: each is found at its own position
abbrev pub AreDistinct : List Name → Type 0
AreDistinct names = (k : ℕ) → k < length names → position (is_same_name (slice_index_or names k [])) names ≡ Some k

-- one round of FNV-1a
abbrev pub hash_step : ℕ → ℕ → ℕ
hash_step hash byte = (bit_xor hash byte * 0x01000193) % 2 ^ 32

-- the hash of a name, over its bytes; no contract depends on which function it is
unfoldable pub hash_of : Name → ℕ
hash_of name = fold hash_step 0x811c9dc5 (encode_utf8_all name)

-- the index of the place that is `after` places after the first one of a hash
abbrev pub place_index : List Place → ℕ → ℕ → ℕ
place_index places hash after = bit_and (hash + after) (length places - 1)

abbrev pub no_place : Place
no_place = record { hash = 0; number = 0 }

abbrev pub place_after : List Place → ℕ → ℕ → Place
place_after places hash after = slice_index_or places (place_index places hash after) no_place

-- the first `count` places of the hash have names with numbers below this one
abbrev pub AreTaken : List Place → ℕ → ℕ → ℕ → Type 0
AreTaken places hash count number = (k : ℕ) → k < count → (place_after places hash k).number < number

-- all eight places of the hash have names with lower numbers
abbrev pub IsCrowded : List Place → ℕ → ℕ → Type 0
IsCrowded places hash number = AreTaken places hash 8 number

-- the name with this number has one of the eight places of its hash; the places before that have names with lower
-- numbers
pub record IsPlaced (places : List Place) (hash number : ℕ) : Type 0 where
  pub after : ℕ
  pub near : after < 8
  pub here : place_after places hash after ≡ record { hash = hash; number = number }
  pub before : AreTaken places hash after number

-- in a table of `count` names, the place is the first of the hash's eight that has none of them
pub record IsFree (places : List Place) (hash count place : ℕ) : Type 0 where
  pub after : ℕ
  pub near : after < 8
  pub here : place ≡ place_index places hash after
  pub inside : place < length places
  pub free : count ≤ (place_after places hash after).number
  pub before : AreTaken places hash after count

-- a name with this hash, and its number if it has one, is found: at its place or, if its eight places are taken, in the
-- map of the others
abbrev pub IsFound : List Place → ℕ → Option ℕ → Option ℕ → Type 0
IsFound places hash other None = other ≡ None
IsFound places hash other (Some number) =
    IsPlaced places hash number ⊎ (IsCrowded places hash number × (other ≡ Some number))

-- each of the names is found, and no other name
abbrev pub FindsNames : {Z : Type 0} → List Place → List (String Z × ℕ) → List Name → Type 0
FindsNames {Z} places others names = (name : Name)
    → IsFound places (hash_of name) (lookup (λ (key : String Z). is_same_name name (chars (string_bytes key))) others)
    (position (is_same_name name) names)
