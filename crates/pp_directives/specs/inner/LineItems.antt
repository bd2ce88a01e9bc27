-- The line of an `#if`, `#elif` or `#line` as it is read: the items that its tokens give, one after another
-- (docs/RULES.md, Expressions 1 and 2).
use Rattle.std.specs.Prelude.{◌≡◌, ℕ, ◌≤◌, ◌<◌, true, List, [], Bool, Option, Some, None, option_map, Result, Ok, Err}
use Rattle.std.specs.Prelude.{⊤}
use Rattle.pp_model.specs.declared.place.Place.{Place}
use Rattle.pp_model.specs.Places.{PlacedFault}
use Rattle.pp_model.specs.declared.read.Read.{Read}
use Rattle.pp_model.specs.Names.{Name}
use Rattle.pp_model.specs.Reading.{Expander, Listed, line_reading}
use Rattle.pp_model.specs.Taking.{Takes}
use Rattle.pp_model.specs.Emitting.{Emits, answers_at}
use Rattle.pp_model.specs.ItemCall.{item_call}
use Rattle.pp_model.specs.LineWords.{InParentheses, Operand}
use Rattle.pp_model.specs.inner.WordsRead.{Closes}
use Rattle.pp_model.specs.declared.read.Taken.{Taken}
use Rattle.pp_model.specs.declared.read.Taken.TheVariants as given
use Rattle.pp_model.specs.declared.splice.CallPlace.{CallPlace}
use Rattle.pp_model.specs.declared.word.LineKind.{LineKind}
use Rattle.pp_directives.specs.declared.line_words.LineItem.{LineItem}
use Rattle.pp_macros.specs.inner.Defined.{Defined, meaning_of}
use Rattle.pp_macros.specs.inner.Frames.{flat}
use Rattle.pp_macros.specs.Item.{PlacedStep}
use Rattle.pp_macros.specs.inner.Left.{work_of, IsSound}
use Rattle.pp_macros.specs.inner.Expander as kept
use Rattle.pp_macros.specs.inner.Expander.{outcome_of_step}
use Rattle.pp_macros.specs.inner.Reader.{of_list, Listing}
use Rattle.pp_macros.specs.declared.halt.PlacedHalt.{PlacedHalt}
use Rattle.pp_macros.specs.declared.halt.PlacedHalt.TheVariants as halt
use Rattle.pp_macros.specs.declared.step.PlacedExit.TheVariants.{Error, Continue, Finished}
use Rattle.pp_model.specs.declared.numbering.Numbering.{Numbering}

-- the expander of the definitions for a line that is being read
abbrev pub expander_of : kept.Expander → Listing → Expander Listed
expander_of m l = record {
  held = option_map outcome_of_step m.held;
  list = flat m.frames;
  reader =
      record { tokens = l.tokens; numbering = l.numbering; visible = meaning_of l.definitions };
  hidden = [];
}

-- what is held, if anything is, is a token or the end
abbrev pub IsHeld : Option (PlacedStep Read) → Type 0
IsHeld None = ⊤
IsHeld (Some (Ok read)) = ⊤
IsHeld (Some (Err Finished)) = ⊤
IsHeld (Some (Err Continue)) = ⊥
IsHeld (Some (Err (Error fault))) = ⊥

-- a line is being read that is numbered so, with these definitions
pub record IsOnLine (numbering : Numbering) (definitions : List Defined) (m : kept.Expander) (l : Listing)
    : Type 0 where
  pub sound : IsSound m (of_list l)
  pub holds : IsHeld m.held
  pub line : l.is_line ≡ true
  pub unhidden : l.hidden ≡ []
  pub defined : l.definitions ≡ definitions
  pub numbered : l.numbering ≡ numbering

-- the line is still being read, and no more of it is left than before
pub record ReadsOn (levels : ℕ) (numbering : Numbering) (definitions : List Defined) (m : kept.Expander) (l : Listing)
    (n : kept.Expander) (k : Listing) : Type 0 where
  pub stands : IsOnLine numbering definitions n k
  pub least : work_of levels n (of_list k) ≤ work_of levels m (of_list l)

-- less of the line is left
abbrev pub IsWorkLess : ℕ → kept.Expander → Listing → kept.Expander → Listing → Type 0
IsWorkLess levels m l n k = work_of levels n (of_list k) < work_of levels m (of_list l)

-- What is read of a line: a value, after which the line is still being read, or a fault, after which nothing is known
-- of it. If memory runs out, this says nothing.
abbrev pub ReadsOfLine : {T : Type 0} → ℕ → Numbering → List Defined → kept.Expander → Listing
    → (Result T PlacedFault → Expander Listed → Type 0)
    → Result T PlacedHalt → kept.Expander → Listing → Type 0
ReadsOfLine levels numbering definitions m l P (Ok value) n k =
    P (Ok value) (expander_of n k) × ReadsOn levels numbering definitions m l n k
ReadsOfLine levels numbering definitions m l P (Err (halt.Fault fault)) n k = (f : Expander Listed) × P (Err fault) f
ReadsOfLine levels numbering definitions m l P (Err halt.OutOfMemory) n k = ⊤

-- a token, or nothing at the end
abbrev pub taken_of_read : Option Read → Taken
taken_of_read (Some read) = given.Token read
taken_of_read None = given.End

abbrev pub taken_of_item : Result LineItem PlacedFault → Taken
taken_of_item (Ok item) = taken_of_read item.found
taken_of_item (Err fault) = given.Fault fault

-- where it was called from
abbrev pub call_of_item : Result LineItem PlacedFault → Option CallPlace
call_of_item (Ok item) = item.call
call_of_item (Err fault) = fault.1.call

-- the next item, with its call
abbrev pub FindsItem : ℕ → Expander Listed → Result LineItem PlacedFault → Expander Listed → Type 0
FindsItem levels e item f =
    (emits : Emits line_reading (answers_at levels) e (taken_of_item item) f) × (item_call emits ≡ call_of_item item)

abbrev pub ReadsItem : ℕ → Numbering → List Defined → kept.Expander → Listing → Result LineItem PlacedHalt
    → kept.Expander → Listing → Type 0
ReadsItem levels numbering definitions m l =
    ReadsOfLine levels numbering definitions m l (FindsItem levels (expander_of m l))

-- what is taken next; that has no fault, for a line's tokens have none of their own
abbrev pub ReadsTaken : ℕ → Numbering → List Defined → kept.Expander → Listing → Result (Option Read) PlacedHalt
    → kept.Expander → Listing → Type 0
ReadsTaken levels numbering definitions m l (Ok found) n k =
    Takes line_reading (expander_of m l) (taken_of_read found) (expander_of n k)
    × ReadsOn levels numbering definitions m l n k
ReadsTaken levels numbering definitions m l (Err (halt.Fault fault)) n k = ⊥
ReadsTaken levels numbering definitions m l (Err halt.OutOfMemory) n k = ⊤

-- what the operand of a `defined` gives; the same after its `(`; and after the `(` and the name
abbrev pub ReadsOperand : LineKind → Place → ℕ → Numbering → List Defined → kept.Expander → Listing
    → Result Bool PlacedHalt → kept.Expander → Listing → Type 0
ReadsOperand kind directive levels numbering definitions m l =
    ReadsOfLine levels numbering definitions m l
    (λ answer f. Operand kind directive (answers_at levels) (expander_of m l) answer f)

abbrev pub ReadsInParentheses : LineKind → Place → ℕ → Numbering → List Defined → kept.Expander
    → Listing → Result Bool PlacedHalt → kept.Expander → Listing → Type 0
ReadsInParentheses kind directive levels numbering definitions m l =
    ReadsOfLine levels numbering definitions m l
    (λ answer f. InParentheses kind directive (answers_at levels) (expander_of m l) answer f)

abbrev pub ReadsClosed : LineKind → Place → ℕ → Numbering → List Defined → Name → kept.Expander
    → Listing → Result Bool PlacedHalt → kept.Expander → Listing → Type 0
ReadsClosed kind directive levels numbering definitions name m l =
    ReadsOfLine levels numbering definitions m l
    (λ answer f. Closes kind directive (answers_at levels) name (expander_of m l) answer f)
