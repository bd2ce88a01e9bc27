-- What a turn of an expander does for its next item.
use Rattle.std.proofs.Common.{◌≡◌, ℕ, List, refl, sym, ◌∙◌, subst}
use Rattle.std.specs.Prelude.{Option, Some, None, Result, Ok, Err, true}
use Rattle.pp_model.specs.declared.place.Place.{Place}
use Rattle.pp_model.specs.Places.{PlacedFault}
use Rattle.pp_model.specs.Names.{Name}
use Rattle.pp_model.specs.Definitions.{Definitions}
use Rattle.pp_model.specs.Reading.{Reading, Expander, Opening, opening, masked_names}
use Rattle.pp_model.specs.Taking.{Takes}
use Rattle.pp_model.specs.Calls.{Answers, Gathered, Gathers, arguments_of, paren_at, site_of, Calls}
use Rattle.pp_model.specs.Calls as calls
use Rattle.pp_model.specs.SpliceList.{outermost_call}
use Rattle.pp_model.specs.Emitting.{with_macro}
use Rattle.pp_model.specs.Emitting as emitting
use Rattle.pp_reference.specs.inner.Seen.{TakesParen, none, some, Finds, nothing, broken, whole, turn_after_name, TurnsAt, object, function, Turns, itself, opens, emitted_among, Resolves, EmitsFrom}
use Rattle.pp_reference.specs.declared.emitted.Emitted.{Emitted}
use Rattle.pp_reference.specs.declared.expander.MacroCall.{MacroCall}
use Rattle.pp_reference.specs.declared.expander.Site.{Site}
use Rattle.pp_reference.specs.declared.expander.AfterName.{AfterName}
use Rattle.pp_reference.specs.declared.expander.Turn.{Turn}
use Rattle.pp_reference.specs.declared.expander.Turn.TheVariants.{Item, Replaced, Called}
use Rattle.pp_model.specs.declared.read.Read.{Read}
use Rattle.pp_model.specs.declared.read.Taken.{Taken}
use Rattle.pp_model.specs.declared.read.Taken.TheVariants as taken
use Rattle.pp_model.specs.declared.numbering.Numbering.{Numbering}

-- a call as the definitions see it
abbrev pub site_at : {S : Type 0} → Reading S → Expander S → Site → calls.Site
site_at I e site = record { paren = site.paren; arguments = site.arguments; numbering = I.numbering e.reader; visible = I.visible e.reader; open_around = masked_names e }

-- what comes after a macro is replaced comes next
abbrev pub Passes : {S : Type 0} → Reading S → Answers → Expander S → Expander S → Type 0
Passes {S} I A e f = (item : Emitted) (q : Expander S) → EmitsFrom I A f item q → EmitsFrom I A e item q

-- what a call goes on to, for each answer to it
pub record Goes {S : Type 0} (I : Reading S) (A : Answers) (e : Expander S) (call : MacroCall) (f : Expander S) : Type 0 where
  pub refused : (fault : PlacedFault) → A call.opening.definition (site_at I f call.site) (Err fault)
      → EmitsFrom I A e (emitted_among f.list (taken.Fault fault)) f
  pub fits : (arguments : List (List Read)) → A call.opening.definition (site_at I f call.site) (Ok arguments)
      → Passes I A e (with_macro call.opening call.site.line arguments f)

-- what a turn does for the next item
abbrev pub Means : {S : Type 0} → Reading S → Answers → Expander S → Turn → Expander S → Type 0
Means I A e (Item item) f = EmitsFrom I A e item f
Means I A e Replaced f = Passes I A e f
Means I A e (Called call) f = Goes I A e call f

-- a name before a `(` is sought
abbrev pub name_from : {S : Type 0} → Taken → Expander S → Emitted
name_from x f = record { taken = x; call = outermost_call f.list }

-- a name without a call after it
pub no_call : {S : Type 0} (I : Reading S) (A : Answers) (x : Taken) (m : Opening) (e f g : Expander S) (p : Option Place) → Takes I e x f
    → opening I f x ≡ Some m → m.definition.function_like ≡ true → TakesParen I f p g → p ≡ None → EmitsFrom I A e (name_from x f) g
no_call I A x m e f g p t w k (none o _ _ u _ takes at is keeps) n = record {
  emits = emitting.name_alone x o x m e f u g t w k (calls.alone o f u _ takes at refl) refl keeps;
  call = refl;
}
no_call I A x m e f g p t w k (some o paren _ _ _ takes at is) n = cc

-- a call with a fault
pub refused_call : {S : Type 0} (I : Reading S) (A : Answers) (x : Taken) (m : Opening) (fault : PlacedFault) (e f g : Expander S) → Takes I e x f
    → opening I f x ≡ Some m → m.definition.function_like ≡ true → Calls I A m.definition f (calls.refused fault) g
    → EmitsFrom I A e (emitted_among g.list (taken.Fault fault)) g
refused_call I A x m fault e f g t w k refuses = record { emits = emitting.call_refused x _ fault m e f g t w k refuses refl; call = refl }

-- a call that does not end
pub ended_call : {S : Type 0} (I : Reading S) (A : Answers) (x : Taken) (m : Opening) (paren : Place) (fault : PlacedFault) (e f g h : Expander S)
    (p : Option Place) → Takes I e x f → opening I f x ≡ Some m → m.definition.function_like ≡ true → TakesParen I f p g → p ≡ Some paren
    → Gathers I 0 paren g (Err fault) h → EmitsFrom I A e (emitted_among h.list (taken.Fault fault)) h
ended_call I A x m paren fault e f g h p t w k (none o _ _ u _ takes at is keeps) n gathers = cc
ended_call I A x m paren fault e f g h p t w k (some o paren' _ _ _ takes at is) n gathers =
    let same : paren_at o ≡ Some paren = at ∙ sym is ∙ n in
    refused_call I A x m fault e f h t w k (calls.broken o paren fault f g h _ takes same gathers refl)

-- a call that ends, for each answer to it
pub whole_call : {S : Type 0} (I : Reading S)
    (A : Answers) (m : Opening) (paren : Place) (gathered : Gathered) (answer : Result (List (List Read)) PlacedFault) (f g h : Expander S)
    (p : Option Place) → TakesParen I f p g → p ≡ Some paren → Gathers I 0 paren g (Ok gathered) h
    → A m.definition (site_of I h paren gathered.tokens) answer → Calls I A m.definition f (calls.called_by gathered.closing.line answer) h
whole_call I A m paren gathered answer f g h p (none o _ _ u _ takes at is keeps) n gathers a = cc
whole_call I A m paren gathered answer f g h p (some o paren' _ _ _ takes at is) n gathers a =
    let same : paren_at o ≡ Some paren = at ∙ sym is ∙ n in
    calls.whole o paren gathered answer f g h _ takes same gathers a refl

pub whole_goes : {S : Type 0} (I : Reading S) (A : Answers) (x : Taken) (m : Opening) (site : Site) (gathered : Gathered) (e f g h : Expander S)
    → Takes I e x f → opening I f x ≡ Some m → m.definition.function_like ≡ true → TakesParen I f (Some site.paren) g
    → Gathers I 0 site.paren g (Ok gathered) h → site.line ≡ gathered.closing.line → site.arguments ≡ arguments_of gathered.tokens
    → Goes I A e (record { opening = m; site = site }) h
whole_goes {S} I A x m site gathered e f g h t w k paren gathers line cut =
    let at : (answer : Result (List (List Read)) PlacedFault) → A m.definition (site_at I h site) answer
    → A m.definition (site_of I h site.paren gathered.tokens) answer =
    λ answer a.
    subst (λ (arguments : List (List Read)). A m.definition
    (record { paren = site.paren; arguments = arguments; numbering = I.numbering h.reader; visible = I.visible h.reader; open_around = masked_names h }) answer) cut a
    in
    record {
      refused = λ fault a. refused_call I A x m fault e f h t w k
          (whole_call I A m site.paren gathered (Err fault) f g h _ paren refl gathers (at (Err fault) a));
      fits = λ arguments a item q later.
          let next = subst (λ (n : ℕ). EmitsFrom I A (with_macro m n arguments h) item q) line later in
          record {
            emits = emitting.call x item.taken arguments gathered.closing.line m e f h q t w k
                (whole_call I A m site.paren gathered (Ok arguments) f g h _ paren refl gathers (at (Ok arguments) a)) next.emits;
            call = next.call;
          };
    }

pub finds_mean : {S : Type 0} (I : Reading S) (A : Answers) (x : Taken) (m : Opening) (c : AfterName) (e f g : Expander S) → Takes I e x f
    → opening I f x ≡ Some m → m.definition.function_like ≡ true → Finds I f c g → Means I A e (turn_after_name (name_from x f) m c g.list) g
finds_mean I A x m c e f g t w k (nothing _ _ _ paren is) =
    subst (λ (d : AfterName). Means I A e (turn_after_name (name_from x f) m d g.list) g) (sym is) (no_call I A x m e f g None t w k paren refl)
finds_mean I A x m c e f h t w k (broken at fault _ _ g _ paren gathers is) =
    subst (λ (d : AfterName). Means I A e (turn_after_name (name_from x f) m d h.list) h) (sym is) (ended_call I A x m at fault e f g h (Some at) t w k paren refl gathers)
finds_mean I A x m c e f h t w k (whole gathered site _ _ g _ paren gathers line cut is) =
    subst (λ (d : AfterName). Means I A e (turn_after_name (name_from x f) m d h.list) h) (sym is) (whole_goes I A x m site gathered e f g h t w k paren gathers line cut)

pub turns_at_mean : {S : Type 0} (I : Reading S) (A : Answers) (x : Taken) (m : Opening) (t : Turn) (e f g : Expander S) → Takes I e x f
    → opening I f x ≡ Some m → TurnsAt I x m f t g → Means I A e t g
turns_at_mean {S} I A x m t e f g takes w (object _ _ _ k is opens_to) =
    subst (λ (d : Turn). Means I A e d g) (sym is)
    (λ item q later.
    let next = subst (λ (h : Expander S). EmitsFrom I A h item q) opens_to later in
    record { emits = emitting.object x item.taken m e f q takes w k next.emits; call = next.call })
turns_at_mean I A x m t e f g takes w (function c _ _ _ k finds is) =
    subst (λ (d : Turn). Means I A e d g) (sym is) (finds_mean I A x m c e f g takes w k finds)

pub turns_mean : {S : Type 0} (I : Reading S) (A : Answers) (t : Turn) (e f : Expander S) → Turns I e t f → Means I A e t f
turns_mean I A t e f (itself o _ _ _ takes w is) =
    subst (λ (d : Turn). Means I A e d f) (sym is) (record { emits = emitting.itself o _ e f takes w refl; call = refl })
turns_mean I A t e g (opens x m _ _ f _ takes w at) = turns_at_mean I A x m t e f g takes w at

-- the answer that is known for these names is the call's
pub answer_known : {S : Type 0} (I : Reading S) (A : Answers) (e : Expander S) (call : MacroCall) (numbering : Numbering)
    (visible : Definitions) (around : List Name) (answer : Result (List (List Read)) PlacedFault) → numbering ≡ I.numbering e.reader
    → visible ≡ I.visible e.reader → around ≡ masked_names e
    → A call.opening.definition (record {
      paren = call.site.paren;
      arguments = call.site.arguments;
      numbering = numbering;
      visible = visible;
      open_around = around;
    }) answer
    → A call.opening.definition (site_at I e call.site) answer
answer_known I A e call numbering visible around answer n v h a = rw (← n, ← v, ← h) a

-- a call whose answer is a fault
pub resolves_fault : {S : Type 0} (I : Reading S) (A : Answers) (e f h : Expander S) (call : MacroCall) (answer : Result (List (List Read)) PlacedFault)
    (item : Emitted) → Goes I A e call f → A call.opening.definition (site_at I f call.site) answer → Resolves call answer f (Some item) h
    → EmitsFrom I A e item h
resolves_fault I A e f h call (Ok arguments) item goes a r = let never : Some item ≡ None = r.0 in cc
resolves_fault {S} I A e f h call (Err fault) item goes a r =
    let given : Emitted = emitted_among f.list (taken.Fault fault) in
    let same : item ≡ given = (let is : Some item ≡ Some given = r.0 in cc) in
    subst (λ (x : Expander S). EmitsFrom I A e item x) (sym r.1)
    (subst (λ (x : Emitted). EmitsFrom I A e x f) (sym same) (goes.refused fault a))

-- a call that is replaced
pub resolves_next : {S : Type 0} (I : Reading S) (A : Answers) (e f h : Expander S) (call : MacroCall) (answer : Result (List (List Read)) PlacedFault)
    → Goes I A e call f → A call.opening.definition (site_at I f call.site) answer → Resolves call answer f None h → Passes I A e h
resolves_next {S} I A e f h call (Ok arguments) goes a r item q next =
    goes.fits arguments a item q (subst (λ (x : Expander S). EmitsFrom I A x item q) r.1 next)
resolves_next I A e f h call (Err fault) goes a r item q next = let never : None ≡ Some (emitted_among f.list (taken.Fault fault)) = r.0 in cc
