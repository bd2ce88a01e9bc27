-- No macro is open twice: no list holds two end marks of one name.
use Rattle.std.specs.Prelude.{◌≡◌, ℕ, ⊤, false, List, [], ◌∷◌, ◌++◌, Some, Result}
use Rattle.pp_model.specs.declared.place.Place.{Place}
use Rattle.pp_model.specs.Places.{PlacedFault}
use Rattle.pp_model.specs.Names.{Name, is_in}
use Rattle.pp_model.specs.Definitions.{Definition, Definitions}
use Rattle.pp_model.specs.SpliceList.{open_names}
use Rattle.pp_model.specs.Reading.{Reading, Expander, Opening, opening, reading_of}
use Rattle.pp_model.specs.Taking.{Takes}
use Rattle.pp_model.specs.Calls.{Gathered, Gathers, Answers, Called, Calls}
use Rattle.pp_model.specs.Emitting.{with_macro, Emits}
use Rattle.pp_model.specs.declared.read.Read.{Read}
use Rattle.pp_model.specs.declared.read.Taken.{Taken}
use Rattle.pp_model.specs.declared.splice.Entry.{Entry}
use Rattle.pp_model.specs.declared.numbering.Numbering.{Numbering}

-- no name is twice in the list
abbrev pub AreApart : List Name → Type 0
AreApart [] = ⊤
AreApart (name ∷ names) = (is_in name names ≡ false) × AreApart names

-- no two end marks of the list are of one name
abbrev pub HasApartMarks : List Entry → Type 0
HasApartMarks entries = AreApart (open_names entries)

-- the new list is the old one without some entries at its front
abbrev pub IsRest : List Entry → List Entry → Type 0
IsRest old new = (front : List Entry) × (old ≡ front ++ new)

-- A taking, and the search for a call, only take entries from the list's front.
pub record OnlyTakesEntries {R : Type 0} (I : Reading R) (A : Answers) : Type 0 where
  pub taking : (o : Taken) (e f : Expander R) → Takes I e o f → IsRest e.list f.list
  pub gathering : (n : ℕ) (last : Place) (gathered : Result Gathered PlacedFault) (e f : Expander R)
      → Gathers I n last e gathered f
      → IsRest e.list f.list
  pub call : (definition : Definition) (called : Called) (e f : Expander R)
      → Calls I A definition e called f
      → IsRest e.list f.list

-- A macro that opens after a taking has no mark in the list yet, nor in what is left of it after a call.
abbrev pub OpensNew : {R : Type 0} → Reading R → Type 0
OpensNew {R} I =
    (o : Taken) (m : Opening) (d e : Expander R) (rest : List Entry)
    → Takes I d o e → opening I e o ≡ Some m
    → IsRest e.list rest
    → is_in m.name (open_names rest) ≡ false

-- Each step of expansion keeps the marks of the list apart.
pub record KeepsMarksApart {R : Type 0} (I : Reading R) (A : Answers) : Type 0 where
  pub taking : (o : Taken) (e f : Expander R) → Takes I e o f → HasApartMarks e.list → HasApartMarks f.list
  pub gathering : (n : ℕ) (last : Place) (gathered : Result Gathered PlacedFault) (e f : Expander R)
      → Gathers I n last e gathered f
      → HasApartMarks e.list
      → HasApartMarks f.list
  pub call : (definition : Definition) (called : Called) (e f : Expander R)
      → Calls I A definition e called f
      → HasApartMarks e.list
      → HasApartMarks f.list
  pub opening : (o : Taken) (m : Opening) (line : ℕ) (arguments : List (List Read)) (d e f : Expander R)
      → Takes I d o e → opening I e o ≡ Some m
      → IsRest e.list f.list
      → HasApartMarks f.list
      → HasApartMarks (with_macro m line arguments f).list
  pub item : (o : Taken) (e f : Expander R) → Emits I A e o f → HasApartMarks e.list → HasApartMarks f.list

-- The reading of a list of tokens begins with a list in which the marks are apart.
abbrev pub StartsApart : Type 0
StartsApart =
    (tokens : List Read) (numbering : Numbering) (visible : Definitions) (hidden : List Name)
    → HasApartMarks (reading_of tokens numbering visible hidden).list
