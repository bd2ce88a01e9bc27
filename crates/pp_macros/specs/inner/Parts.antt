-- Lists of tokens, each a part of one list.
use Rattle.std.specs.Prelude.{⊤, ℕ, ◌≤◌, ◌⊎◌, List, [], ◌∷◌, map, slice_range, length, drop, Option, Some, None}
use Rattle.pp_model.specs.declared.read.Read.{Read}
use Rattle.pp_macros.specs.declared.argument_lists.Part.{Part}

-- the tokens of a part
abbrev pub list_of : List Read → Part → List Read
list_of tokens part = slice_range tokens part.start part.end

-- the tokens of each part
abbrev pub lists_of : List Read → List Part → List (List Read)
lists_of tokens parts = map (list_of tokens) parts

-- the parts follow one another, between these positions
abbrev pub AreInOrder : ℕ → List Part → ℕ → Type 0
AreInOrder from [] to = from ≤ to
AreInOrder from (part ∷ parts) to = (from ≤ part.start) × (part.start ≤ part.end) × AreInOrder part.end parts to

-- no other part has a token of this one
abbrev pub AreApart : Part → List Part → Type 0
AreApart part [] = ⊤
AreApart part (other ∷ others) = ((other.end ≤ part.start) ⊎ (part.end ≤ other.start)) × AreApart part others

-- what was appended to these tokens
abbrev pub addition : List Read → List Read → List Read
addition old new = drop (length old) new

-- lists of tokens, and what is left of the one that is being read
pub record OpenLists : Type 0 where
  pub lists : List (List Read)
  pub reading : Option (List Read)

-- the next token of the list that is being read
abbrev pub next_read : Option (List Read) → Option Read
next_read None = None
next_read (Some []) = None
next_read (Some (read ∷ rest)) = Some read

-- what is left after that token
abbrev pub after_read : Option (List Read) → Option (List Read)
after_read None = None
after_read (Some []) = Some []
after_read (Some (read ∷ rest)) = Some rest
