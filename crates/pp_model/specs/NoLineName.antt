-- `__LINE__` is never given: whatever is taken, and each item, is something else.
use Rattle.std.specs.Prelude.{◌≡◌, ℕ, Bool, false, List, All, IfSome, Result, IfOk}
use Rattle.pp_model.specs.declared.place.Place.{Place}
use Rattle.pp_model.specs.Places.{PlacedFault}
use Rattle.pp_model.specs.Names.{Name, is_identifier, line_name}
use Rattle.pp_model.specs.Definitions.{Definition, Definitions}
use Rattle.pp_model.specs.Reading.{Reading, Expander}
use Rattle.pp_model.specs.Taking.{Takes}
use Rattle.pp_model.specs.Calls.{Gathered, Gathers, Answers, Called, no_call, Calls}
use Rattle.pp_model.specs.Emitting.{Emits, Collects, Alone}
use Rattle.pp_model.specs.declared.read.Read.{Read}
use Rattle.pp_model.specs.declared.read.Taken.{Taken}
use Rattle.pp_model.specs.declared.read.Taken.TheVariants as taken
use Rattle.pp_model.specs.declared.numbering.Numbering.{Numbering}

-- whether the identifier `__LINE__` was taken
abbrev pub is_line_name : Taken → Bool
is_line_name (taken.Token read) = is_identifier line_name read.token.value
is_line_name _ = false

-- what is held, if anything, is no `__LINE__`
abbrev pub HoldsNoLineName : {R : Type 0} → Expander R → Type 0
HoldsNoLineName e = IfSome e.held (λ o. is_line_name o ≡ false)

-- no token of the list is a `__LINE__`
abbrev pub AreNoLineNames : List Read → Type 0
AreNoLineNames tokens = All (λ read. is_identifier line_name read.token.value ≡ false) tokens

-- If no `__LINE__` is held, no step of expansion gives one or leaves one held.
pub record ShowsNoLineName {R : Type 0} (I : Reading R) (A : Answers) : Type 0 where
  pub taking : (o : Taken) (e f : Expander R)
      → Takes I e o f
      → HoldsNoLineName e
      → (is_line_name o ≡ false) × HoldsNoLineName f
  pub gathering : (n : ℕ) (last : Place) (gathered : Result Gathered PlacedFault) (e f : Expander R)
      → Gathers I n last e gathered f
      → HoldsNoLineName e
      → IfOk gathered (λ g. AreNoLineNames g.tokens) × HoldsNoLineName f
  pub call : (definition : Definition) (called : Called) (e f : Expander R)
      → Calls I A definition e called f
      → HoldsNoLineName e
      → ((o : Taken) → called ≡ no_call o → is_line_name o ≡ false) × HoldsNoLineName f
  pub item : (o : Taken) (e f : Expander R)
      → Emits I A e o f
      → HoldsNoLineName e
      → (is_line_name o ≡ false) × HoldsNoLineName f
  pub list : (items : Result (List Read) PlacedFault) (e : Expander R)
      → Collects I A e items
      → HoldsNoLineName e
      → IfOk items AreNoLineNames

-- No `__LINE__` is among the tokens that a list of tokens expands to alone.
abbrev pub AloneShowsNoLineName : Type 0
AloneShowsNoLineName =
    (level : ℕ) (tokens : List Read) (numbering : Numbering) (visible : Definitions) (hidden : List Name)
    (items : Result (List Read) PlacedFault)
    → Alone level tokens numbering visible hidden items
    → IfOk items AreNoLineNames
