-- How entries are written after those before them. No contract of a public call cites this.
use Rattle.std.specs.Prelude.{◌≡◌, ℕ, ◌+◌, ◌≤◌, List, [], ◌∷◌, ◌++◌, take, drop, length, Option, Some, None}
use Rattle.std.specs.Prelude.{Bool, true, false}
use Rattle.std.specs.Borrow.{Bor}
use Rattle.pp_c.specs.Entries.{Entry, bare, with_text, in_64_bits, items_from, texts_of}
use Rattle.pp_rs.specs.Preorder.{leaf_of}
use Rattle.pp_rs.specs.declared.token.Token.{Token}
use Rattle.pp_rs.specs.TokenRefs.{value_of}
use Rattle.pp_rs.specs.declared.pp.token_ref.TokenRef.{TokenRef}
use Rattle.pp_c.specs.Tokens.{leaf_entry, token_entries}
use Rattle.pp_c.specs.declared.items.Item.{Item}
use Rattle.pp_c.specs.declared.items.Sizes.{Sizes}
use Rattle.pp_c.specs.declared.output.Entry.{Entry as PassedEntry}
use Rattle.pp_c.specs.declared.output.Output.{Output}

abbrev pub entry_of : Item → Option (Bor (List ℕ)) → Entry
entry_of item None = bare item
entry_of item (Some text) = with_text item text.now

-- an item with its text, as the code passes it
abbrev pub entry_in : PassedEntry → Entry
entry_in passed = entry_of passed.item passed.text

-- the list, with others written over it from an index on
abbrev pub written_over : {A : Type 0} → ℕ → List A → List A → List A
written_over at more old = take at old ++ more ++ drop (at + length more) old

-- the room with one more entry
abbrev pub with_room : Sizes → Entry → Sizes
with_room sizes (bare item) = record sizes { items = in_64_bits (sizes.items + 1) }
with_room sizes (with_text item text) = record {
  items = in_64_bits (sizes.items + 1);
  texts = in_64_bits (sizes.texts + length text);
}

-- the room of entries after others
abbrev pub room_after : Sizes → List Entry → Sizes
room_after sizes [] = sizes
room_after sizes (entry ∷ entries) = room_after (with_room sizes entry) entries

-- entries have room after others
pub record HaveRoom (output : Output) (more : List Entry) : Type 0 where
  pub items : output.sizes.items + length more ≤ length output.items.now
  pub texts : output.sizes.texts + length (texts_of more) ≤ length output.texts.now

-- These entries are counted. If there is room for all, they are written after those before them.
pub record Takes (old : Output) (more : List Entry) (new : Output) : Type 0 where
  pub same_items : new.items.ghost_name ≡ old.items.ghost_name
  pub same_texts : new.texts.ghost_name ≡ old.texts.ghost_name
  pub items_room : length new.items.now ≡ length old.items.now
  pub texts_room : length new.texts.now ≡ length old.texts.now
  pub sizes : new.sizes ≡ room_after old.sizes more
  pub items : HaveRoom old more
      → new.items.now ≡ written_over old.sizes.items (items_from old.sizes.texts more) old.items.now
  pub texts : HaveRoom old more
      → new.texts.now ≡ written_over old.sizes.texts (texts_of more) old.texts.now

-- These entries are written if there is room for all. Otherwise nothing changes.
abbrev pub TakesIfRoom : Output → List Entry → Bool → Output → Type 0
TakesIfRoom old more true new = Takes old more new × (HaveRoom old [] → HaveRoom old more)
TakesIfRoom old more false new = (new ≡ old) × (HaveRoom old [] → ¬ (HaveRoom old more))

-- the token's entries are taken
abbrev pub TakesToken : Output → TokenRef → Output → Type 0
TakesToken old token new = Takes old (token_entries token.location (value_of token.value)) new

-- a token of a directive's line
abbrev pub outer_entry : Token → Entry
outer_entry token = leaf_entry token.location 0 0 (leaf_of token.value)
