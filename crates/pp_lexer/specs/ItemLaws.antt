-- Laws of the items of a text.
use Rattle.std.specs.Prelude.{◌≡◌, ℕ, ◌+◌, ◌≤◌, List, [], ◌∷◌, Ok, Err, All, length}
use Rattle.std.specs.Str.{IsUtf8}
use Rattle.pp_lexer.specs.Spots.{spots_of}
use Rattle.pp_lexer.specs.declared.rules.Rules.{Rules}
use Rattle.pp_lexer.specs.declared.token.Location.{Location}
use Rattle.pp_lexer.specs.Items.{Lexeme, Item, items_by, places_by}

-- a token lies in a source of that many bytes; an error has no place
abbrev pub IsWithin : ℕ → Lexeme → Type 0
IsWithin total (Ok t) = (t.location.start ≤ t.location.end) × (t.location.end ≤ total)
IsWithin total (Err e) = Unit {0}

-- Every token of a source has its start at most at its end, and its end in the source.
abbrev pub TokensLieWithin : Type 0
TokensLieWithin =
    (rules : Rules) (source : List ℕ)
    → IsUtf8 source
    → All (λ i. IsWithin (length source) i.item) (items_by rules (spots_of source))

-- A source has at most one more item than bytes.
abbrev pub ItemsAreFinite : Type 0
ItemsAreFinite =
    (rules : Rules) (source : List ℕ) → IsUtf8 source → length (items_by rules (spots_of source)) ≤ length source + 1

-- a token has a line that a source of that many bytes can have; an error has no place
abbrev pub HasLineWithin : ℕ → Lexeme → Type 0
HasLineWithin total (Ok t) = (1 ≤ t.location.line) × (t.location.line ≤ total + 1)
HasLineWithin total (Err e) = Unit {0}

-- Every token of a source has a line that is at least 1, and at most one more than the source's bytes.
abbrev pub TokensHaveLines : Type 0
TokensHaveLines =
    (rules : Rules) (source : List ℕ)
    → IsUtf8 source
    → All (λ i. HasLineWithin (length source) i.item) (items_by rules (spots_of source))

-- the location of a token is this place; an error has no place of its own
abbrev pub IsAt : Lexeme → Location → Type 0
IsAt (Ok t) place = t.location ≡ place
IsAt (Err e) place = Unit {0}

-- each item is at the place of the same number, and there are as many places as items
abbrev pub StandAt : List Item → List Location → Type 0
StandAt [] [] = Unit {0}
StandAt [] (place ∷ places) = ⊥
StandAt (i ∷ items) [] = ⊥
StandAt (i ∷ items) (place ∷ places) = IsAt i.item place × StandAt items places

-- Each item of a source has one place, and that of a token is its location.
abbrev pub PlacesAreOfItems : Type 0
PlacesAreOfItems =
    (rules : Rules) (source : List ℕ) → StandAt (items_by rules (spots_of source)) (places_by rules (spots_of source))
