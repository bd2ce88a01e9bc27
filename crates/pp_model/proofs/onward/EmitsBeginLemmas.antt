-- Up to the first fault an expander over a source that is read on gives the items that one over the source gives.
use Rattle.std.proofs.Common.{◌≡◌, ◌∙◌, ap, sym, ℕ, [], refl, Option, Some, None}
use Rattle.std.specs.Prelude.{Result, Ok, Err}
use Rattle.pp_lexer.specs.declared.token.TokenValue.{TokenValue}
use Rattle.pp_lexer.specs.declared.token.TokenValue.TheVariants.{Ident}
use Rattle.pp_model.specs.declared.place.Place.{Place}
use Rattle.pp_model.specs.Places.{PlacedFault, place_of, fault_in, unasked}
use Rattle.pp_model.specs.Definitions.{Definition}
use Rattle.pp_model.specs.SpliceList.{outermost_call}
use Rattle.pp_model.specs.Reading.{Expander, Opening, opening_of, opening}
use Rattle.pp_model.specs.Taking.{Takes}
use Rattle.pp_model.specs.Calls.{Answers, Gathered, before, Gathers, closed, inside, overfull, ended, failed, Called, no_call, refused, fits, paren_at, Calls, alone, broken, whole}
use Rattle.pp_model.specs.Emitting.{with_macro, found_among, Emits, itself, object, name_alone, call_refused, call}
use Rattle.pp_model.specs.SourceReader.{SourceReader}
use Rattle.pp_model.specs.Reads.{source_reading}
use Rattle.pp_model.specs.Onward.{Onward, onward_reading}
use Rattle.pp_model.specs.RunToEnd.{going_on}
use Rattle.pp_model.specs.declared.read.Read.{Read}
use Rattle.pp_model.specs.declared.read.Taken.{Taken}
use Rattle.pp_model.specs.declared.read.Taken.TheVariants as taken
use Rattle.pp_model.specs.declared.splice.CallPlace.{CallPlace}
use Rattle.pp_model.proofs.onward.ReadsBeginLemmas.{Taking, same, fails, takes_begin}

-- a call gives a fault no text that it asks for
pub asks_in_call : (place : Option CallPlace) (fault : PlacedFault) → (fault_in place fault).1.asks ≡ fault.1.asks
asks_in_call None fault = refl
asks_in_call (Some place) fault = refl

module _ (A : Answers) where
  same_opening : (f : Expander SourceReader) (x : Taken) → opening (onward_reading A) (going_on [] f) x ≡ opening (source_reading A) f x
  same_opening f (taken.Token read) = of read.token.value
    where
      of : (value : TokenValue) → opening_of (onward_reading A) (going_on [] f) read value ≡ opening_of (source_reading A) f read value
      of (Ident name) = refl
      of _ = refl
  same_opening f (taken.Fault fault) = refl
  same_opening f taken.End = refl

  -- ---- the search for arguments

  -- Then the expanders are the same; or a fault was found that asks for nothing, and the lists are the same.
  data Gathering (x : Result Gathered PlacedFault) (f : Expander SourceReader) (g : Expander Onward) : Type 0 where
    alike : g ≡ going_on [] f → Gathering x f g
    stopped : (fault : PlacedFault) → x ≡ Err fault → fault.1.asks ≡ None → g.list ≡ f.list → Gathering x f g

  list_alike : {x : Taken} {f : Expander SourceReader} {g : Expander Onward} → Taking A x f g → g.list ≡ f.list
  list_alike (same z) = rw z refl
  list_alike (fails fault p asks list around) = list

  -- after a token or the end the expanders are the same
  after_token : (token : Read) (f : Expander SourceReader) (g : Expander Onward) → Taking A (taken.Token token) f g → g ≡ going_on [] f
  after_token token f g (same z) = z
  after_token token f g (fails fault p asks list around) = cc

  after_end : (f : Expander SourceReader) (g : Expander Onward) → Taking A taken.End f g → g ≡ going_on [] f
  after_end f g (same z) = z
  after_end f g (fails fault p asks list around) = cc

  gathers_begin : (n : ℕ) (last : Place) (x : Result Gathered PlacedFault) (e : Expander SourceReader) (e1 h : Expander Onward) → e1 ≡ going_on [] e
      → Gathers (onward_reading A) n last e1 x h
      → (f : Expander SourceReader) × Gathers (source_reading A) n last e x f × Gathering x f h
  gathers_begin n last x e e1 h z (closed n1 last1 token e2 f1 x1 t nests p) =
      let f = takes_begin A (taken.Token token) e e1 h z t in
      (f.0, closed n last token e f.0 x f.1 nests p, alike (after_token token f.0 h f.2))
  gathers_begin n last x e e1 h z (inside n1 k last1 token e2 f1 h1 rest x1 t nests more p) =
      let f = takes_begin A (taken.Token token) e e1 f1 z t in
      let g = gathers_begin k (place_of token) rest f.0 f1 h (after_token token f.0 f1 f.2) more in
      (g.0, inside n k last token e f.0 g.0 rest x f.1 nests g.1 p, of g.0 g.2)
    where
      of : (g : Expander SourceReader) → Gathering rest g h → Gathering x g h
      of g (alike q) = alike q
      of g (stopped fault q asks list) = stopped fault (p ∙ ap (before token) q) asks list
  gathers_begin n last x e e1 h z (overfull n1 last1 token e2 f1 x1 t nests p) =
      let f = takes_begin A (taken.Token token) e e1 h z t in
      (f.0, overfull n last token e f.0 x f.1 nests p, alike (after_token token f.0 h f.2))
  gathers_begin n last x e e1 h z (ended n1 last1 e2 f1 x1 t p) =
      let f = takes_begin A taken.End e e1 h z t in
      (f.0, ended n last e f.0 x f.1 p, alike (after_end f.0 h f.2))
  gathers_begin n last x e e1 h z (failed n1 last1 fault e2 f1 x1 t p) =
      let f = takes_begin A (taken.Fault fault) e e1 h z t in
      (f.0, failed n last fault e f.0 x f.1 p, stopped (unasked fault) p refl (list_alike f.2))

  -- ---- calls

  -- The same of a call; or what was taken in place of its `(` is such a fault, and as many texts are around.
  data Calling (c : Called) (f : Expander SourceReader) (g : Expander Onward) : Type 0 where
    alike_there : g ≡ going_on [] f → Calling c f g
    refuses : (fault : PlacedFault) → c ≡ refused fault → fault.1.asks ≡ None → g.list ≡ f.list → Calling c f g
    holds_back : (fault : PlacedFault) → c ≡ no_call (taken.Fault fault) → fault.1.asks ≡ None → g.reader.reader.around ≡ f.reader.around → Calling c f g

  -- after a `(` the expanders are the same
  after_paren : (x : Taken) (paren : Place) → paren_at x ≡ Some paren → (f : Expander SourceReader) (g : Expander Onward) → Taking A x f g → g ≡ going_on [] f
  after_paren x paren p f g (same z) = z
  after_paren x paren p f g (fails fault q asks list around) = let bad : paren_at (taken.Fault fault) ≡ Some paren = rw q at p in cc

  calls_begin : (definition : Definition) (c : Called) (e : Expander SourceReader) (e1 h : Expander Onward) → e1 ≡ going_on [] e
      → Calls (onward_reading A) A definition e1 c h
      → (f : Expander SourceReader) × Calls (source_reading A) A definition e c f × Calling c f h
  calls_begin definition c e e1 h z (alone x e2 f1 c1 t p q) =
      let f = takes_begin A x e e1 h z t in
      (f.0, alone x e f.0 c f.1 p q, of f.0 f.2)
    where
      of : (f : Expander SourceReader) → Taking A x f h → Calling c f h
      of f (same y) = alike_there y
      of f (fails fault y asks list around) = holds_back fault (q ∙ ap no_call y) asks around
  calls_begin definition c e e1 h z (broken x paren fault e2 f1 g1 c1 t p gathers q) =
      let f = takes_begin A x e e1 f1 z t in
      let g = gathers_begin 0 paren (Err fault) f.0 f1 h (after_paren x paren p f.0 f1 f.2) gathers in
      (g.0, broken x paren fault e f.0 g.0 c f.1 p g.1 q, of g.0 g.2)
    where
      of : (g : Expander SourceReader) → Gathering (Err fault) g h → Calling c g h
      of g (alike y) = alike_there y
      of g (stopped found y asks list) = let is : fault ≡ found = cc in refuses fault q (rw is asks) list
  calls_begin definition c e e1 h z (whole x paren gathered answer e2 f1 g1 c1 t p gathers a q) =
      let f = takes_begin A x e e1 f1 z t in
      let g = gathers_begin 0 paren (Ok gathered) f.0 f1 h (after_paren x paren p f.0 f1 f.2) gathers in
      let there : h ≡ going_on [] g.0 = all_gathered g.0 g.2 in
      (g.0, whole x paren gathered answer e f.0 g.0 c f.1 p g.1 (rw there at a) q, alike_there there)
    where
      all_gathered : (g : Expander SourceReader) → Gathering (Ok gathered) g h → h ≡ going_on [] g
      all_gathered g (alike y) = y
      all_gathered g (stopped found y asks list) = cc

  -- ---- items

  -- After an item the expanders are the same; or both hold a fault that asks for nothing, and as many texts are around;
  -- or the item is such a fault.
  pub data Giving (x : Taken) (f : Expander SourceReader) (g : Expander Onward) : Type 0 where
    goes_on : g ≡ going_on [] f → Giving x f g
    holds : (fault : PlacedFault) → fault.1.asks ≡ None → f.held ≡ Some (taken.Fault fault) → g.held ≡ Some (taken.Fault fault)
        → g.reader.reader.around ≡ f.reader.around → Giving x f g
    stops : (fault : PlacedFault) → x ≡ taken.Fault fault → fault.1.asks ≡ None → Giving x f g

  -- where a macro opens, the expanders are the same
  after_opening : (x : Taken) (m : Opening) (f : Expander SourceReader) (g : Expander Onward) → opening (onward_reading A) g x ≡ Some m → Taking A x f g
      → (g ≡ going_on [] f) × (opening (source_reading A) f x ≡ Some m)
  after_opening x m f g k (same z) = (z, sym (same_opening f x) ∙ (rw z at k))
  after_opening x m f g k (fails fault p asks list around) = let bad : opening (onward_reading A) g (taken.Fault fault) ≡ Some m = rw p at k in cc

  pub emits_begin : (x : Taken) (e : Expander SourceReader) (e1 h : Expander Onward) → e1 ≡ going_on [] e → Emits (onward_reading A) A e1 x h
      → (f : Expander SourceReader) × Emits (source_reading A) A e x f × Giving x f h
  emits_begin x e e1 h z (itself y x1 e2 h1 t k p) =
      let f = takes_begin A y e e1 h z t in
      of f.0 f.1 f.2
    where
      of : (f : Expander SourceReader) → Takes (source_reading A) e y f → Taking A y f h
          → (f : Expander SourceReader) × Emits (source_reading A) A e x f × Giving x f h
      of f there (same q) = (f, itself y x e f there (sym (same_opening f y) ∙ (rw q at k)) (rw q at p), goes_on q)
      of f there (fails fault q asks list around) =
          let is : x ≡ found_among f.list (taken.Fault fault) = rw (list, q) at p in
          (f, itself y x e f there (rw q refl) (rw q is), stops (fault_in (outermost_call f.list) fault) is (asks_in_call _ fault ∙ asks))
  emits_begin x e e1 h z (object y x1 m e2 f1 h1 t k kind i) =
      let f = takes_begin A y e e1 f1 z t in
      let o = after_opening y m f.0 f1 k f.2 in
      let g = emits_begin x (with_macro m m.token.location.line [] f.0) (with_macro m m.token.location.line [] f1) h (ap (λ (u : Expander Onward). with_macro m m.token.location.line [] u) o.0) i in
      (g.0, object y x m e f.0 g.0 f.1 o.1 kind g.1, g.2)
  emits_begin x e e1 h z (name_alone y w x1 m e2 f1 g1 h1 t k kind c p q) =
      let f = takes_begin A y e e1 f1 z t in
      let o = after_opening y m f.0 f1 k f.2 in
      let g = calls_begin m.definition (no_call w) f.0 f1 g1 o.0 c in
      (record g.0 { held = Some w }, name_alone y w x m e f.0 g.0 _ f.1 o.1 kind g.1 p refl, of g.0 g.2)
    where
      of : (g : Expander SourceReader) → Calling (no_call w) g g1 → Giving x (record g { held = Some w }) h
      of g (alike_there y) = goes_on (rw y at q)
      of g (refuses fault y asks list) = cc
      of g (holds_back fault y asks around) =
          let is : w ≡ taken.Fault fault = cc in
          holds fault asks (ap Some is) (rw q (ap Some is)) (rw q around)
  emits_begin x e e1 h z (call_refused y x1 fault m e2 f1 g1 t k kind c p) =
      let f = takes_begin A y e e1 f1 z t in
      let o = after_opening y m f.0 f1 k f.2 in
      let g = calls_begin m.definition (refused fault) f.0 f1 h o.0 c in
      of f.0 f.1 o.1 g.0 g.1 g.2
    where
      of : (f : Expander SourceReader) → Takes (source_reading A) e y f → opening (source_reading A) f y ≡ Some m
          → (g : Expander SourceReader) → Calls (source_reading A) A m.definition f (refused fault) g → Calling (refused fault) g h
          → (f : Expander SourceReader) × Emits (source_reading A) A e x f × Giving x f h
      of f there opens g calls (alike_there q) = (g, call_refused y x fault m e f g there opens kind calls (rw q at p), goes_on q)
      of f there opens g calls (holds_back found q asks around) = cc
      of f there opens g calls (refuses found q asks list) =
          let same_fault : found ≡ fault = cc in
          let is : x ≡ found_among g.list (taken.Fault fault) = rw list at p in (
            g,
            call_refused y x fault m e f g there opens kind calls is,
            stops (fault_in (outermost_call g.list) fault) is (asks_in_call _ fault ∙ (rw same_fault at asks)),
          )
  emits_begin x e e1 h z (call y x1 arguments line m e2 f1 g1 h1 t k kind c i) =
      let f = takes_begin A y e e1 f1 z t in
      let o = after_opening y m f.0 f1 k f.2 in
      let g = calls_begin m.definition (fits arguments line) f.0 f1 g1 o.0 c in
      let there : g1 ≡ going_on [] g.0 = fitting g.0 g.2 in
      let l = emits_begin x (with_macro m line arguments g.0) (with_macro m line arguments g1) h (ap (λ (u : Expander Onward). with_macro m line arguments u) there) i in
      (l.0, call y x arguments line m e f.0 g.0 l.0 f.1 o.1 kind g.1 l.1, l.2)
    where
      fitting : (g : Expander SourceReader) → Calling (fits arguments line) g g1 → g1 ≡ going_on [] g
      fitting g (alike_there q) = q
      fitting g (refuses fault q asks list) = cc
      fitting g (holds_back fault q asks around) = cc
