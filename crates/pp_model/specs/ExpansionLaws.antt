-- Laws of expansion: each step of it has at most one outcome, and leaves one state.
use Rattle.std.specs.Prelude.{◌≡◌, ℕ, List, Bool, Result}
use Rattle.pp_model.specs.declared.place.Place.{Place}
use Rattle.pp_model.specs.Places.{PlacedFault}
use Rattle.pp_model.specs.Names.{Name}
use Rattle.pp_model.specs.Definitions.{Definition, Definitions}
use Rattle.pp_model.specs.Reading.{Reading, Expander, Listed}
use Rattle.pp_model.specs.Taking.{Takes}
use Rattle.pp_model.specs.Calls.{Gathered, Gathers, Answers, Site, Called, Calls}
use Rattle.pp_model.specs.Emitting.{Emits, Collects, Alones, Each}
use Rattle.pp_model.specs.ItemCall.{item_call}
use Rattle.pp_model.specs.LineWords.{Operand, Words, LineWords}
use Rattle.pp_model.specs.declared.read.Read.{Read}
use Rattle.pp_model.specs.declared.read.Taken.{Taken}
use Rattle.pp_model.specs.declared.word.LineKind.{LineKind}
use Rattle.pp_model.specs.declared.numbering.Numbering.{Numbering}

-- A reader gives at most one outcome, and one reader is after it.
abbrev pub OneReads : {R : Type 0} → Reading R → Type 0
OneReads {R} I = (r : R) (x y : Taken) (s t : R) → I.Reads r x s → I.Reads r y t → (x ≡ y) × (s ≡ t)

-- A taking has at most one outcome.
abbrev pub OneTaking : {R : Type 0} → Reading R → Type 0
OneTaking {R} I = (x y : Taken) (e f g : Expander R) → Takes I e x f → Takes I e y g → (x ≡ y) × (f ≡ g)

-- The search for the end of a call gathers at most one list of tokens, or meets one fault.
abbrev pub OneGathering : {R : Type 0} → Reading R → Type 0
OneGathering {R} I =
    (n : ℕ) (last : Place) (x y : Result Gathered PlacedFault) (e f g : Expander R)
    → Gathers I n last e x f
    → Gathers I n last e y g
    → (x ≡ y) × (f ≡ g)

-- A call at a site gives at most one list of arguments, or one fault.
abbrev pub OneAnswer : Answers → Type 0
OneAnswer A =
    (definition : Definition) (site : Site) (x y : Result (List (List Read)) PlacedFault)
    → A definition site x
    → A definition site y
    → x ≡ y

-- The search for a call after the name of a function-like macro has at most one outcome.
abbrev pub OneCall : {R : Type 0} → Reading R → Answers → Type 0
OneCall {R} I A =
    (definition : Definition) (x y : Called) (e f g : Expander R)
    → Calls I A definition e x f
    → Calls I A definition e y g
    → (x ≡ y) × (f ≡ g)

-- An expander has at most one next item, which comes from at most one call.
abbrev pub OneItem : {R : Type 0} → Reading R → Answers → Type 0
OneItem {R} I A =
    (x y : Taken) (e f g : Expander R) (first : Emits I A e x f) (second : Emits I A e y g)
    → (x ≡ y) × (f ≡ g) × (item_call first ≡ item_call second)

-- An expander has at most one list of items, or one first fault.
abbrev pub OneList : {R : Type 0} → Reading R → Answers → Type 0
OneList {R} I A = (x y : Result (List Read) PlacedFault) (e : Expander R) → Collects I A e x → Collects I A e y → x ≡ y

-- An argument alone expands to at most one list of tokens, or one fault.
abbrev pub OneArgument : Alones → Type 0
OneArgument deeper =
    (tokens : List Read) (numbering : Numbering) (visible : Definitions) (hidden : List Name)
    (x y : Result (List Read) PlacedFault)
    → deeper tokens numbering visible hidden x
    → deeper tokens numbering visible hidden y
    → x ≡ y

-- Several arguments, each alone, expand to at most one list of lists, or one fault.
abbrev pub OneEach : Alones → Type 0
OneEach deeper =
    (numbering : Numbering) (visible : Definitions) (hidden : List Name) (arguments : List (List Read))
    (x y : Result (List (List Read)) PlacedFault)
    → Each deeper numbering visible hidden arguments x
    → Each deeper numbering visible hidden arguments y
    → x ≡ y

-- The operand of a `defined` has at most one answer, or one fault.
abbrev pub OneOperand : Answers → Type 0
OneOperand A =
    (kind : LineKind) (directive : Place) (x y : Result Bool PlacedFault) (e f g : Expander Listed)
    → Operand kind directive A e x f
    → Operand kind directive A e y g
    → (x ≡ y) × (f ≡ g)

-- A line has at most one list of words, with one ending.
abbrev pub OneLine : Answers → Type 0
OneLine A =
    (kind : LineKind) (directive : Place) (x y : Words) (e : Expander Listed)
    → LineWords kind directive A e x
    → LineWords kind directive A e y
    → x ≡ y
