-- A pause of an expander: what is taken and emitted after it is also taken and emitted before it.
use Rattle.std.proofs.Common.{◌≡◌, ◌∙◌, refl, List, sym, Some, None}
use Rattle.pp_model.specs.SpliceList.{after_marks}
use Rattle.pp_model.specs.Reading.{Reading, Expander}
use Rattle.pp_model.specs.Taking as taking
use Rattle.pp_model.specs.Taking.{Fetches, Takes}
use Rattle.pp_model.specs.Calls.{Answers}
use Rattle.pp_model.specs.ItemCall.{item_call}
use Rattle.pp_model.specs.Emitting.{Emits, itself, object, name_alone, call_refused, call}
use Rattle.pp_model.specs.declared.read.Taken.{Taken as Given}
use Rattle.pp_model.specs.declared.splice.Entry.{Entry}

-- a pause: what is taken after it is taken before it
abbrev pub PausesTo : {R : Type 0} → Reading R → Expander R → Expander R → Type 0
PausesTo {R} I e f = (o : Given) (h : Expander R) → Takes I f o h → Takes I e o h

-- what is emitted later is emitted now too, and comes from the same macro
abbrev pub EmitsLater : {R : Type 0} → Reading R → Answers → Expander R → Expander R → Type 0
EmitsLater {R} I A e f = (o : Given) (g : Expander R) (later : Emits I A f o g) → (first : Emits I A e o g) × (item_call first ≡ item_call later)

-- a pause keeps what is emitted
pub pause_emits : {R : Type 0} (I : Reading R) (A : Answers) (e f : Expander R) → PausesTo I e f → EmitsLater I A e f
pause_emits I A e f takes o g (itself x o1 f1 h t n is) = (itself x o1 e h (takes x h t) n is, refl)
pause_emits I A e f takes o g (object x o1 m f1 h g1 t n k next) = (object x o1 m e h g1 (takes x h t) n k next, refl)
pause_emits I A e f takes o g (name_alone x y o1 m f1 h i g1 t n k calls is at) = (name_alone x y o1 m e h i g1 (takes x h t) n k calls is at, refl)
pause_emits I A e f takes o g (call_refused x o1 fault m f1 h g1 t n k calls is) = (call_refused x o1 fault m e h g1 (takes x h t) n k calls is, refl)
pause_emits I A e f takes o g (call x o1 arguments line m f1 h i g1 t n k calls next) =
    (call x o1 arguments line m e h i g1 (takes x h t) n k calls next, refl)

-- the end marks at the front of the list may be lost
list_fetches : {R : Type 0} (I : Reading R) (e : Expander R) (entries : List Entry) → e.held ≡ None → after_marks e.list ≡ after_marks entries
    → (o : Given) (h : Expander R) → Fetches I (record e { list = entries }) o h → Fetches I e o h
list_fetches I e entries free same o h (taking.held o1 f1 h1 is at) = let bad : Some o ≡ None = sym is ∙ free in cc
list_fetches I e entries free same o h (taking.listed o1 read rest f1 h1 is front becomes at) = taking.listed o read rest e h free (same ∙ front) becomes at
list_fetches I e entries free same o h (taking.read x o1 r f1 h1 is front reads becomes at) = taking.read x o r e h free (same ∙ front) reads becomes at

pub list_pauses : {R : Type 0} (I : Reading R) (e : Expander R) (entries : List Entry) → e.held ≡ None → after_marks e.list ≡ after_marks entries
    → PausesTo I e (record e { list = entries })
list_pauses I e entries free same o h takes = record {
  first = takes.first;
  fetches = list_fetches I e entries free same takes.first h takes.fetches;
  paints = takes.paints;
}
