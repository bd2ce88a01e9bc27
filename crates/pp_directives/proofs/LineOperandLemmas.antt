-- The operand of a `defined`, as the code reads it.
use Rattle.std.proofs.Common.{◌≡◌, ◌∙◌, ℕ, Bool, true, false, List, refl, sym, ap, Option, Some, None}
use Rattle.std.specs.Prelude.{Result, Ok, Err, is_some}
use Rattle.pp_model.specs.declared.place.Place.{Place}
use Rattle.pp_model.specs.Places.{PlacedFault, fault_in, place_in}
use Rattle.pp_model.specs.declared.read.Read.{Read}
use Rattle.pp_model.specs.Names.{Name}
use Rattle.pp_model.specs.Reading.{Expander, Listed}
use Rattle.pp_model.specs.SpliceList.{outermost_call}
use Rattle.pp_model.specs.Emitting.{answers_at}
use Rattle.pp_model.specs.ItemCall.{item_call}
use Rattle.pp_model.specs.LineWords.{InParentheses, Operand, is_defined, name_in, unwanted_part, unwanted_closing}
use Rattle.pp_model.specs.inner.LineWords.{is_open_paren, is_close_paren}
use Rattle.pp_model.specs.inner.WordsRead.{Closes}
use Rattle.pp_model.specs.declared.read.Taken.TheVariants as given
use Rattle.pp_model.specs.declared.splice.CallPlace.{CallPlace}
use Rattle.pp_model.specs.declared.word.LineKind.{LineKind}
use Rattle.pp_model.proofs.values.OperandCases as operand
use Rattle.pp_model.proofs.values.WordLemmas.{closes, does_not_close, closes_named}
use Rattle.pp_macros.specs.inner.Defined.{Defined, meaning_of}
use Rattle.pp_directives.specs.inner.LineItems.{FindsItem, ReadsOn, ReadsItem, ReadsTaken, ReadsClosed, ReadsInParentheses, ReadsOperand, expander_of, taken_of_read}
use Rattle.pp_directives.specs.declared.line_words.LineItem.{LineItem}
use Rattle.pp_macros.specs.inner.Frames.{outermost_frame_call}
use Rattle.pp_macros.proofs.open_frames.FlatLemmas.{outermost_flat}
use Rattle.pp_macros.specs.inner.Expander as kept
use Rattle.pp_macros.specs.inner.Reader.{Listing}
use Rattle.pp_macros.specs.declared.halt.PlacedHalt.{PlacedHalt}
use Rattle.pp_macros.specs.declared.halt.PlacedHalt.TheVariants as halt
use Rattle.pp_directives.proofs.LineReadLemmas.{reads_broken, reads_then}
use Rattle.pp_model.specs.declared.numbering.Numbering.{Numbering}

-- a name is defined there where it is defined
defined_there : (levels : ℕ) (numbering : Numbering) (definitions : List Defined) (m n : kept.Expander) (l k : Listing) (name : Name) (b : Bool)
    → ReadsOn levels numbering definitions m l n k → b ≡ is_some (meaning_of definitions name) → b ≡ is_defined (expander_of n k) name
defined_there levels numbering definitions m n l k name b after is = is ∙ ap (λ (ds : List Defined). is_some (meaning_of ds name)) (sym after.stands.defined)

answered_there : {b there : Bool} → b ≡ there → ◌≡◌ {A = Result Bool PlacedFault} (Ok b) (Ok there)
answered_there is = ap (λ (x : Bool). let r : Result Bool PlacedFault = Ok x in r) is

-- an error is in the call that it has
own_call : (call : Option CallPlace) (place : Place) → call ≡ place.call → place ≡ place_in call place
own_call None place is = refl
own_call (Some call) place is = ap (λ (o : Option CallPlace). record place { call = o }) (sym is)

own_fault : (call : Option CallPlace) (fault : PlacedFault) → call ≡ fault.1.call → fault ≡ fault_in call fault
own_fault call fault is = ap (λ (place : Place). let f : PlacedFault = (fault.0, place) in f) (own_call call fault.1 is)

-- the fault of a part in the call that is open over the frames is in the one that is open over their list
fault_there : (n : kept.Expander) (k : Listing) (fault wanted : PlacedFault) → fault ≡ wanted
    → ◌≡◌ {A = Result Bool PlacedFault} (Err (fault_in (outermost_frame_call n.frames) fault)) (Err (fault_in (outermost_call (expander_of n k).list) wanted))
fault_there n k fault wanted is =
    ap (λ (f : PlacedFault). let r : Result Bool PlacedFault = Err (fault_in (outermost_frame_call n.frames) f) in r) is
    ∙ ap (λ (o : Option CallPlace). let r : Result Bool PlacedFault = Err (fault_in o wanted) in r) (sym (outermost_flat n.frames))

module _ (kind : LineKind) (directive : Place) (levels : ℕ) (numbering : Numbering) (definitions : List Defined) (m : kept.Expander) (l : Listing) (n : kept.Expander) (k : Listing) where
  -- after the `(` and the name
  pub closed_broken : (name : Name) (h : PlacedHalt) (r : Result Bool PlacedHalt) → r ≡ Err h → ReadsItem levels numbering definitions m l (Err h) n k
      → ReadsClosed kind directive levels numbering definitions name m l r n k
  closed_broken name h r is reads =
      reads_broken levels numbering definitions m l (FindsItem levels (expander_of m l))
      (λ (answer : Result Bool PlacedFault) (f : Expander Listed). Closes kind directive (answers_at levels) name
      (expander_of m l) answer f) h n n k k r is (λ fault f found. does_not_close kind directive (answers_at levels) name (given.Fault fault)
      (expander_of m l) f found.0 fault refl (own_fault (item_call found.0) fault found.1)) reads

  module _ (found : LineItem) (item : ReadsItem levels numbering definitions m l (Ok found) n k) where
    pub closed_answer : (name : Name) (b : Bool) → is_close_paren (taken_of_read found.found) ≡ true → b ≡ is_some (meaning_of definitions name)
        → ReadsClosed kind directive levels numbering definitions name m l (Ok b) n k
    closed_answer name b close is = (
      closes kind directive (answers_at levels) name (taken_of_read found.found) (expander_of m l) (expander_of n k) item.0.0 b close
          (defined_there levels numbering definitions m n l k name b item.1 is),
      item.1,
    )

    pub closed_fault : (name : Name) (fault : PlacedFault) → is_close_paren (taken_of_read found.found) ≡ false
        → fault ≡ fault_in found.call (unwanted_closing kind directive (taken_of_read found.found)) → ReadsClosed kind directive levels numbering definitions name m l (Err (halt.Fault fault)) n k
    closed_fault name fault still is = (
      expander_of n k,
      does_not_close kind directive (answers_at levels) name (taken_of_read found.found) (expander_of m l) (expander_of n k) item.0.0 fault still
          (is ∙ ap (λ (o : Option CallPlace). fault_in o (unwanted_closing kind directive (taken_of_read found.found))) (sym item.0.1)),
    )

  module _ (found : Option Read) (taken : ReadsTaken levels numbering definitions m l (Ok found) n k) where
    -- after the `(`
    pub parenthesized_name : (name : Name) (r : Result Bool PlacedHalt) (p : kept.Expander) (q : Listing) → name_in (taken_of_read found) ≡ Some name
        → ReadsClosed kind directive levels numbering definitions name n k r p q → ReadsInParentheses kind directive levels numbering definitions m l r p q
    parenthesized_name name r p q is reads =
        reads_then levels numbering definitions m l (λ (answer : Result Bool PlacedFault) (f : Expander Listed). Closes kind directive (answers_at levels) name
        (expander_of n k) answer f)
        (λ (answer : Result Bool PlacedFault) (f : Expander Listed). InParentheses kind directive (answers_at levels) (expander_of m l) answer f) n p k q r taken.1
        (λ answer f closed. closes_named kind directive (answers_at levels) name (taken_of_read found) (expander_of m l)
        (expander_of n k) f answer taken.0 is closed) reads

    pub parenthesized_fault : (fault : PlacedFault) (h : PlacedHalt) → (name_in (taken_of_read found) ≡ None) × (fault ≡ unwanted_part directive (taken_of_read found))
        → h ≡ halt.Fault (fault_in (outermost_frame_call n.frames) fault)
        → ReadsInParentheses kind directive levels numbering definitions m l (Err h) n k
    parenthesized_fault fault h is within = rw within (
      expander_of n k,
      operand.no_name kind directive (answers_at levels) (taken_of_read found) (expander_of m l) (expander_of n k)
          (Err (fault_in (outermost_frame_call n.frames) fault)) taken.0 is.0
          (fault_there n k fault (unwanted_part directive (taken_of_read found)) is.1),
    )

    -- the whole operand
    pub operand_opened : (r : Result Bool PlacedHalt) (p : kept.Expander) (q : Listing) → is_open_paren (taken_of_read found) ≡ true
        → ReadsInParentheses kind directive levels numbering definitions n k r p q → ReadsOperand kind directive levels numbering definitions m l r p q
    operand_opened r p q open_paren reads =
        reads_then levels numbering definitions m l (λ (answer : Result Bool PlacedFault) (f : Expander Listed). InParentheses kind directive (answers_at levels)
        (expander_of n k) answer f)
        (λ (answer : Result Bool PlacedFault) (f : Expander Listed). Operand kind directive (answers_at levels) (expander_of m l) answer f) n p k q r taken.1
        (λ answer f within. operand.in_parentheses kind directive (answers_at levels) (taken_of_read found) (expander_of m l) (expander_of n k) f answer taken.0 open_paren within) reads

    pub operand_name : (name : Name) (b : Bool) → name_in (taken_of_read found) ≡ Some name → b ≡ is_some (meaning_of definitions name)
        → ReadsOperand kind directive levels numbering definitions m l (Ok b) n k
    operand_name name b is answer = (
      operand.name kind directive (answers_at levels) (taken_of_read found) name (expander_of m l) (expander_of n k) (Ok b) taken.0 is
          (answered_there (defined_there levels numbering definitions m n l k name b taken.1 answer)),
      taken.1,
    )

    pub operand_fault : (fault : PlacedFault) (h : PlacedHalt) → is_open_paren (taken_of_read found) ≡ false → (name_in (taken_of_read found) ≡ None)
        × (fault ≡ unwanted_part directive (taken_of_read found)) → h ≡ halt.Fault (fault_in (outermost_frame_call n.frames) fault)
        → ReadsOperand kind directive levels numbering definitions m l (Err h) n k
    operand_fault fault h still is within = rw within (
      expander_of n k,
      operand.neither kind directive (answers_at levels) (taken_of_read found) (expander_of m l) (expander_of n k)
          (Err (fault_in (outermost_frame_call n.frames) fault)) taken.0 is.0 still
          (fault_there n k fault (unwanted_part directive (taken_of_read found)) is.1),
    )
