-- The expander of the definitions that each expander of the plain program is, what one turn of an expander does, and
-- its next item.
use Rattle.std.specs.Prelude.{◌≡◌, true, false, [], List, Option, Some, None, Result, Ok, Err}
use Rattle.pp_model.specs.declared.place.Place.{Place}
use Rattle.pp_model.specs.Places.{PlacedFault}
use Rattle.pp_model.specs.Reading.{Reading, Expander, Opening, opening}
use Rattle.pp_model.specs.Taking.{Takes}
use Rattle.pp_model.specs.Calls.{Answers, Gathered, Gathers, arguments_of, paren_at}
use Rattle.pp_model.specs.SpliceList.{outermost_call}
use Rattle.pp_model.specs.Emitting.{Emits, found_among, with_macro}
use Rattle.pp_model.specs.ItemCall.{call_among, item_call}
use Rattle.pp_model.specs.inner.Emitting.{holding}
use Rattle.pp_reference.specs.declared.emitted.Emitted.{Emitted}
use Rattle.pp_reference.specs.declared.expander.MacroCall.{MacroCall}
use Rattle.pp_reference.specs.declared.expander.Site.{Site}
use Rattle.pp_reference.specs.declared.expander.Expander as declared
use Rattle.pp_reference.specs.declared.expander.AfterName.{AfterName}
use Rattle.pp_reference.specs.declared.expander.AfterName.TheVariants.{NoCall, Broken, Whole}
use Rattle.pp_reference.specs.declared.expander.Turn.{Turn}
use Rattle.pp_reference.specs.declared.expander.Turn.TheVariants.{Item, Replaced, Called}
use Rattle.pp_model.specs.declared.read.Read.{Read}
use Rattle.pp_model.specs.declared.read.Taken.{Taken}
use Rattle.pp_model.specs.declared.read.Taken.TheVariants as taken
use Rattle.pp_model.specs.declared.splice.Entry.{Entry}

-- the expander of the definitions, if `state` gives its reader
abbrev pub seen : {R S : Type 0} → (R → S) → declared.Expander R → Expander S
seen state e = record { held = e.held; list = e.list.items; reader = state e.reader; hidden = e.hidden.items }

-- a `(` is taken, or what was taken in its place is held
pub data TakesParen {S : Type 0} (I : Reading S) : Expander S → Option Place → Expander S → Type 0 where
  none : (o : Taken) (p : Option Place) (e f g : Expander S)
      → Takes I e o f → paren_at o ≡ None
      → p ≡ None
      → g ≡ holding o f
      → TakesParen I e p g
  some : (o : Taken) (paren : Place) (p : Option Place) (e f : Expander S)
      → Takes I e o f → paren_at o ≡ Some paren
      → p ≡ Some paren
      → TakesParen I e p f

-- what follows the name of a function-like macro, before its arguments are expanded
pub data Finds {S : Type 0} (I : Reading S) : Expander S → AfterName → Expander S → Type 0 where
  nothing : (c : AfterName) (e f : Expander S) → TakesParen I e None f → c ≡ NoCall → Finds I e c f
  broken : (paren : Place) (fault : PlacedFault) (c : AfterName) (e f g : Expander S)
      → TakesParen I e (Some paren) f
      → Gathers I 0 paren f (Err fault) g
      → c ≡ Broken fault
      → Finds I e c g
  whole : (gathered : Gathered) (site : Site) (c : AfterName) (e f g : Expander S)
      → TakesParen I e (Some site.paren) f
      → Gathers I 0 site.paren f (Ok gathered) g
      → site.line ≡ gathered.closing.line
      → site.arguments ≡ arguments_of gathered.tokens
      → c ≡ Whole site
      → Finds I e c g

-- what is found while these entries are left, as an item
abbrev pub emitted_among : List Entry → Taken → Emitted
emitted_among entries o =
    let found = found_among entries o in
    record { taken = found; call = call_among entries found }

-- the turn at the name of a function-like macro, if this follows it and these entries are left then
abbrev pub turn_after_name : Emitted → Opening → AfterName → List Entry → Turn
turn_after_name name m NoCall after = Item name
turn_after_name name m (Broken fault) after = Item (emitted_among after (taken.Fault fault))
turn_after_name name m (Whole site) after = Called (record { opening = m; site = site })

-- the turn at a token that opens a macro
pub data TurnsAt {S : Type 0} (I : Reading S) (given : Taken) (m : Opening)
    : Expander S → Turn → Expander S → Type 0 where
  object : (t : Turn) (e f : Expander S)
      → m.definition.function_like ≡ false
      → t ≡ Replaced
      → f ≡ with_macro m m.token.location.line [] e
      → TurnsAt I given m e t f
  function : (c : AfterName) (t : Turn) (e f : Expander S)
      → m.definition.function_like ≡ true
      → Finds I e c f
      → t ≡ turn_after_name (record { taken = given; call = outermost_call e.list }) m c f.list
      → TurnsAt I given m e t f

-- One turn: an item, an object-like macro that was replaced, or a call that was gathered and is still to be replaced.
pub data Turns {S : Type 0} (I : Reading S) : Expander S → Turn → Expander S → Type 0 where
  itself : (o : Taken) (t : Turn) (e f : Expander S)
      → Takes I e o f → opening I f o ≡ None
      → t ≡ Item (emitted_among f.list o)
      → Turns I e t f
  opens : (x : Taken) (m : Opening) (t : Turn) (e f g : Expander S)
      → Takes I e x f → opening I f x ≡ Some m
      → TurnsAt I x m f t g
      → Turns I e t g

-- a call is replaced by its answer, or the answer's fault is given as an item
abbrev pub Resolves : {S : Type 0} → MacroCall → Result (List (List Read)) PlacedFault
    → Expander S → Option Emitted → Expander S → Type 0
Resolves call (Ok arguments) e item f = (item ≡ None) × (f ≡ with_macro call.opening call.site.line arguments e)
Resolves call (Err fault) e item f = (item ≡ Some (emitted_among e.list (taken.Fault fault))) × (f ≡ e)

-- the next item, with the call that it comes from
pub record EmitsFrom {S : Type 0} (I : Reading S) (A : Answers) (e : Expander S) (item : Emitted) (f : Expander S)
    : Type 0 where
  pub emits : Emits I A e item.taken f
  pub call : item_call emits ≡ item.call
