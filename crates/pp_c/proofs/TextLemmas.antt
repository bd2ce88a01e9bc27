-- Texts as UTF-8.
use Rattle.std.proofs.Common.{◌≡◌, ℕ, ◌<◌, ◌^◌, List, [], ◌∷◌, length, ap, sym, ◌∙◌, arith, length-append}
use Rattle.std.proofs.lemmas.Str.{encodes-chars}
use Rattle.std.specs.Str.{chars, encode_utf8_all, IsUtf8}
use Rattle.pp_c.specs.Entries.{room_of, with_text}
use Rattle.pp_c.specs.declared.items.Item.{Item}
use Rattle.pp_c.specs.declared.items.Sizes.{Sizes}
use Rattle.pp_c.proofs.TakingLemmas.{sizes_same}

-- the bytes of known characters
pub bytes_of_chars : (bytes characters : List ℕ) → IsUtf8 bytes → chars bytes ≡ characters → encode_utf8_all characters ≡ bytes
bytes_of_chars bytes characters u e = ap encode_utf8_all (sym e) ∙ encodes-chars bytes u

-- the room of an item with a text
pub room_of_one : (item : Item) (bytes : List ℕ) → length bytes < 2 ^ 64
    → ◌≡◌ {A = Sizes} record { items = 1; texts = length bytes } (room_of (with_text item bytes ∷ []))
room_of_one item bytes small = sizes_same _ _ _ _ (omega arith) (omega (arith, small, length-append bytes []))
