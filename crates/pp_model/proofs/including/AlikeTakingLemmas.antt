-- What a reader that follows another gives alike: tokens, the arguments of calls, calls and items.
use Rattle.std.proofs.Common.{◌≡◌, ◌∙◌, ℕ, Bool, true, false, List, [], ◌∷◌, ◌||◌, if◌then◌else◌, refl, sym, ap, Option, Some, None}
use Rattle.std.specs.Prelude.{Result, Ok, Err}
use Rattle.pp_lexer.specs.declared.token.PreprocessorError.TheVariants.{IntegerOverflow, UnexpectedEndOfInput}
use Rattle.pp_lexer.specs.declared.token.TokenValue.{TokenValue}
use Rattle.pp_lexer.specs.declared.token.TokenValue.TheVariants.{Ident}
use Rattle.pp_model.specs.Calls.{Answers, Site, site_of, nesting, closes, within, too_many, Gathered, before, Gathers, closed, inside, overfull, ended, failed, Called, no_call, refused, fits, called_by, paren_at, Calls, alone, broken, whole}
use Rattle.pp_model.specs.Definitions.{Definition}
use Rattle.pp_model.specs.Emitting.{called_at, with_macro, found_among, Emits, itself, object, name_alone, call_refused, call}
use Rattle.pp_model.specs.Names.{Name}
use Rattle.pp_model.specs.Painting.{taken_among}
use Rattle.pp_model.specs.Places.{PlacedFault, place_of, unasked}
use Rattle.pp_model.specs.Reading.{Reading, Expander, masked_names, Opening, opening_of, opening}
use Rattle.pp_model.specs.SpliceList.{after_marks}
use Rattle.pp_model.specs.Taking.{shown_token, shown_outcome, Fetches, held, listed, read, Takes}
use Rattle.pp_model.specs.declared.place.Place.{Place}
use Rattle.pp_model.specs.declared.read.Read.{Read}
use Rattle.pp_model.specs.declared.read.Taken.{Taken}
use Rattle.pp_model.specs.declared.read.Taken.TheVariants as taken
use Rattle.pp_model.specs.declared.splice.Entry.{Entry}
use Rattle.pp_model.specs.declared.splice.Entry.TheVariants.{Plain, End}
use Rattle.pp_model.specs.inner.Alike.{Pairs, Both, AlikeRead, AlikePlace, AlikeFault, AlikeTaken, AlikeEntry, AlikeDefinition, AlikeResult, AlikeSite, AlikeExpander, Follows}
use Rattle.pp_model.specs.inner.Reading.{opening_by}
use Rattle.pp_model.proofs.including.AlikeListLemmas.{both_none, both_some, of_token, of_fault, of_end, found_alike, painted_alike, place_of_alike, paren_alike, after_marks_alike, open_names_alike, macro_alike, arguments_alike, shown_alike, shown_outcome_alike}

-- ---- what the parts of a list of entries are alike to

rest_alike : (xs : List Entry) (x : Read) (ys : List Entry) → Pairs AlikeEntry (Plain x ∷ xs) ys
    → (y : Read) × (zs : List Entry) × (ys ≡ Plain y ∷ zs) × AlikeRead x y × Pairs AlikeEntry xs zs
rest_alike xs x [] p = absurd p
rest_alike xs x (Plain y ∷ zs) p = (y, zs, refl, p.0, p.1)
rest_alike xs x (End y ∷ zs) p = absurd p.0

none_alike : (ys : List Entry) → Pairs AlikeEntry [] ys → ys ≡ []
none_alike [] p = refl
none_alike (y ∷ ys) p = absurd p

-- ---- macros that open

pub record AlikeOpening (m n : Opening) : Type 0 where
  pub token : m.token ≡ n.token
  pub name : m.name ≡ n.name
  pub definition : AlikeDefinition m.definition n.definition

opening_by_alike : (x y : Read) (name : Name) (d f : Option Definition) → AlikeRead x y → Both AlikeDefinition d f
    → Both AlikeOpening (opening_by x name d) (opening_by y name f)
opening_by_alike x y name None None a b = tt
opening_by_alike x y name (Some d) (Some f) a b = record { token = a.0; name = refl; definition = b }
opening_by_alike x y name _ _ a b = absurd b

opening_if_alike : (b c : Bool) → b ≡ c → (o p : Option Opening) → Both AlikeOpening o p
    → Both AlikeOpening (if b then None else o) (if c then None else p)
opening_if_alike true true e o p a = tt
opening_if_alike false false e o p a = a
opening_if_alike true false e o p a = cc
opening_if_alike false true e o p a = cc

-- ---- results

abbrev AlikeGathered : Gathered → Gathered → Type 0
AlikeGathered x y = Pairs AlikeRead x.tokens y.tokens × (x.closing ≡ y.closing)

module _ {X : Type 0} (R : X → X → Type 0) where
  pub of_ok : (P : Result X PlacedFault → Type 0) (x : X) (r : Result X PlacedFault) → AlikeResult R (Ok x) r → P r → (y : X) × P (Ok y) × R x y
  of_ok P x (Ok y) a p = (y, p, a)
  of_ok P x (Err f) a p = absurd a

  pub of_err : (P : Result X PlacedFault → Type 0) (f : PlacedFault) (r : Result X PlacedFault) → AlikeResult R (Err f) r → P r
      → (g : PlacedFault) × P (Err g) × AlikeFault f g
  of_err P f (Err g) a p = (g, p, a)
  of_err P f (Ok y) a p = absurd a

gathered_before_alike : (x y : Read) (g h : Result Gathered PlacedFault) → AlikeRead x y → AlikeResult AlikeGathered g h
    → AlikeResult AlikeGathered (before x g) (before y h)
gathered_before_alike x y (Ok g) (Ok h) a b = ((a, b.0), b.1)
gathered_before_alike x y (Err g) (Err h) a b = b
gathered_before_alike x y _ _ a b = absurd b

abbrev AlikeCalled : Called → Called → Type 0
AlikeCalled (no_call x) (no_call y) = AlikeTaken x y
AlikeCalled (refused x) (refused y) = AlikeFault x y
AlikeCalled (fits xs m) (fits ys n) = Pairs (Pairs AlikeRead) xs ys × (m ≡ n)
AlikeCalled _ _ = ⊥

called_by_alike : (g h : Gathered) (x y : Result (List (List Read)) PlacedFault) → AlikeGathered g h → AlikeResult (Pairs (Pairs AlikeRead)) x y
    → AlikeCalled (called_by g.closing.line x) (called_by h.closing.line y)
called_by_alike g h (Ok x) (Ok y) p a = (a, ap (λ l. l.line) p.1)
called_by_alike g h (Err x) (Err y) p a = a
called_by_alike g h _ _ p a = absurd a

of_no_call : (P : Called → Type 0) (x : Taken) (c : Called) → AlikeCalled (no_call x) c → P c → (y : Taken) × P (no_call y) × AlikeTaken x y
of_no_call P x (no_call y) a p = (y, p, a)
of_no_call P x _ a p = absurd a

of_refused : (P : Called → Type 0) (x : PlacedFault) (c : Called) → AlikeCalled (refused x) c → P c → (y : PlacedFault) × P (refused y) × AlikeFault x y
of_refused P x (refused y) a p = (y, p, a)
of_refused P x _ a p = absurd a

of_fits : (P : Called → Type 0) (xs : List (List Read)) (m : ℕ) (c : Called) → AlikeCalled (fits xs m) c → P c
    → (ys : List (List Read)) × (n : ℕ) × P (fits ys n) × Pairs (Pairs AlikeRead) xs ys × (m ≡ n)
of_fits P xs m (fits ys n) a p = (ys, n, p, a.0, a.1)
of_fits P xs m _ a p = absurd a

-- alike calls of alike definitions have alike answers
abbrev pub AnswersAlike : Answers → Type 0
AnswersAlike A =
    (d f : Definition) (s t : Site) (out : Result (List (List Read)) PlacedFault) → AlikeDefinition d f → AlikeSite s t → A d s out
    → (answer : Result (List (List Read)) PlacedFault) × A f t answer × AlikeResult (Pairs (Pairs AlikeRead)) out answer

module _ {R S : Type 0} (Alike : R → S → Type 0) (I : Reading R) (J : Reading S) (follows : Follows Alike I J) where
  abbrev Like : Expander R → Expander S → Type 0
  Like e f = AlikeExpander Alike e f

  pub masked_alike : (e : Expander R) (f : Expander S) → Like e f → masked_names e ≡ masked_names f
  masked_alike e f a = rw (open_names_alike e.list f.list a.list, a.hidden) refl

  -- ---- what is taken

  abbrev Fetched : Taken → Expander R → Expander S → Type 0
  Fetched o f u = (p : Taken) × (g : Expander S) × Fetches J u p g × AlikeTaken o p × Like f g

  fetches_alike : (o : Taken) (e f : Expander R) (u : Expander S) → Like e u → Fetches I e o f → Fetched o f u
  fetches_alike o e f u a (held o1 e1 f1 h p) =
      let there = both_some AlikeTaken e.held u.held o a.held h in
      let after : Expander S = record u { held = None } in
      let same : Like (record e { held = None }) after = record { held = tt; list = a.list; reader = a.reader; hidden = a.hidden } in
      (there.0, after, held there.0 u after there.1 refl, there.2, rw p same)
  fetches_alike o e f u a (listed o1 x rest e1 f1 h l s p) =
      let there = rest_alike rest x (after_marks u.list) (rw l at (after_marks_alike e.list u.list a.list)) in
      let after : Expander S = record u { list = there.1 } in
      let given = shown_token (J.shown_line u.reader) there.1 there.0 in
      let same : Like (record e { list = rest }) after = record { held = a.held; list = there.4; reader = a.reader; hidden = a.hidden } in
      let shown : AlikeTaken (shown_token (I.shown_line e.reader) rest x) given =
      shown_alike (I.shown_line e.reader) (J.shown_line u.reader) (follows.shown_line e.reader u.reader a.reader) rest there.1 x there.0 there.4 there.3 in
      (given, after, listed given there.0 there.1 u after (both_none AlikeTaken e.held u.held a.held h) there.2 refl refl, rw s shown, rw p same)
  fetches_alike o e f u a (read x o1 reader e1 f1 h l m s p) =
      let there = follows.reads e.reader reader u.reader x a.reader m in
      let after : Expander S = record u { list = []; reader = there.1 } in
      let given = shown_outcome (J.shown_line there.1) there.0 in
      let same : Like (record e { list = []; reader = reader }) after = record { held = a.held; list = tt; reader = there.4; hidden = a.hidden } in
      let shown : AlikeTaken (shown_outcome (I.shown_line reader) x) given =
      shown_outcome_alike (I.shown_line reader) (J.shown_line there.1) (follows.shown_line reader there.1 there.4) x there.0 there.3 in
      let empty = none_alike (after_marks u.list) (rw l at (after_marks_alike e.list u.list a.list)) in
      (given, after, read there.0 given there.1 u after (both_none AlikeTaken e.held u.held a.held h) empty there.2 refl refl, rw s shown, rw p same)

  abbrev TakesLike : Taken → Expander R → Expander S → Type 0
  TakesLike o f u = (p : Taken) × (g : Expander S) × Takes J u p g × AlikeTaken o p × Like f g

  pub takes_alike : (o : Taken) (e f : Expander R) (u : Expander S) → Like e u → Takes I e o f → TakesLike o f u
  takes_alike o e f u a t =
      let there = fetches_alike t.first e f u a t.fetches in
      let given = taken_among (masked_names there.1) there.0 in
      let painted : AlikeTaken (taken_among (masked_names f) t.first) given =
      rw (masked_alike f there.1 there.4) (painted_alike (masked_names there.1) t.first there.0 there.3) in
      (given, there.1, record { first = there.0; fetches = there.2; paints = refl }, rw t.paints painted, there.4)

  -- ---- the arguments of a call

  abbrev GathersLike : ℕ → Place → Result Gathered PlacedFault → Expander R → Expander S → Type 0
  GathersLike n last g f u = (x : Result Gathered PlacedFault) × (h : Expander S) × Gathers J n last u x h × AlikeResult AlikeGathered g x × Like f h

  gathers_alike : (n : ℕ) (last there : Place) (g : Result Gathered PlacedFault) (e f : Expander R) (u : Expander S) → AlikePlace last there → Like e u
      → Gathers I n last e g f → GathersLike n there g f u
  gathers_alike n last there g e f u l a (closed n1 last1 x e1 f1 g1 t c s) =
      let t2 = takes_alike (taken.Token x) e f u a t in
      let k = of_token (λ y. Takes J u y t2.1) x t2.0 t2.3 t2.2 in
      let at : nesting n k.0.token.value ≡ closes = rw (← k.2.0) c in
      let out : Result Gathered PlacedFault = Ok (record { tokens = []; closing = k.0.token.location }) in
      (out, t2.1, closed n there k.0 u t2.1 out k.1 at refl, rw s (tt, ap (λ y. y.location) k.2.0), t2.4)
  gathers_alike n last there g e f u l a (inside n1 m last1 x e1 i f1 rest g1 t c more s) =
      let t2 = takes_alike (taken.Token x) e i u a t in
      let k = of_token (λ y. Takes J u y t2.1) x t2.0 t2.3 t2.2 in
      let at : nesting n k.0.token.value ≡ within m = rw (← k.2.0) c in
      let later = gathers_alike m (place_of x) (place_of k.0) rest i f t2.1 (place_of_alike x k.0 k.2) t2.4 more in
      let out = before k.0 later.0 in
      (out, later.1, inside n m there k.0 u t2.1 later.1 later.0 out k.1 at later.2 refl, rw s (gathered_before_alike x k.0 rest later.0 k.2 later.3), later.4)
  gathers_alike n last there g e f u l a (overfull n1 last1 x e1 f1 g1 t c s) =
      let t2 = takes_alike (taken.Token x) e f u a t in
      let k = of_token (λ y. Takes J u y t2.1) x t2.0 t2.3 t2.2 in
      let at : nesting n k.0.token.value ≡ too_many = rw (← k.2.0) c in
      let out : Result Gathered PlacedFault = Err (IntegerOverflow, place_of k.0) in
      (out, t2.1, overfull n there k.0 u t2.1 out k.1 at refl, rw s (refl, place_of_alike x k.0 k.2), t2.4)
  gathers_alike n last there g e f u l a (ended n1 last1 e1 f1 g1 t s) =
      let t2 = takes_alike taken.End e f u a t in
      let k = of_end (λ y. Takes J u y t2.1) t2.0 t2.3 t2.2 in
      let out : Result Gathered PlacedFault = Err (UnexpectedEndOfInput, there) in
      (out, t2.1, ended n there u t2.1 out k refl, rw s (refl, l), t2.4)
  gathers_alike n last there g e f u l a (failed n1 last1 fault e1 f1 g1 t s) =
      let t2 = takes_alike (taken.Fault fault) e f u a t in
      let k = of_fault (λ y. Takes J u y t2.1) fault t2.0 t2.3 t2.2 in
      let out : Result Gathered PlacedFault = Err (unasked k.0) in
      (out, t2.1, failed n there k.0 u t2.1 out k.1 refl, rw s (k.2.0, (k.2.1.0, refl)), t2.4)

  -- ---- calls and items

  site_alike : (e : Expander R) (f : Expander S) (x y : Place) (xs ys : List Read) → Like e f → AlikePlace x y → Pairs AlikeRead xs ys
      → AlikeSite (site_of I e x xs) (site_of J f y ys)
  site_alike e f x y xs ys a p q = record {
    paren = p;
    arguments = arguments_alike xs ys q;
    numbering = follows.numbering e.reader f.reader a.reader;
    visible = follows.visible e.reader f.reader a.reader;
    open_around = masked_alike e f a;
  }

  opening_of_alike : (e : Expander R) (f : Expander S) (x y : Read) (v : TokenValue) → Like e f → AlikeRead x y
      → Both AlikeOpening (opening_of I e x v) (opening_of J f y v)
  opening_of_alike e f x y (Ident name) a p =
      opening_if_alike (I.is_reserved name || x.painted) (J.is_reserved name || y.painted) (rw (follows.is_reserved name, p.1) refl)
      (opening_by x name (I.visible e.reader name)) (opening_by y name (J.visible f.reader name))
      (opening_by_alike x y name (I.visible e.reader name) (J.visible f.reader name) p (follows.visible e.reader f.reader a.reader name))
  opening_of_alike e f x y _ a p = tt

  opening_alike : (e : Expander R) (f : Expander S) (x y : Taken) → Like e f → AlikeTaken x y → Both AlikeOpening (opening I e x) (opening J f y)
  opening_alike e f (taken.Token x) (taken.Token y) a p = of_value x.token.value (ap (λ t. t.value) p.0)
    where
      of_value : (v : TokenValue) → v ≡ y.token.value → Both AlikeOpening (opening_of I e x v) (opening_of J f y y.token.value)
      of_value v same = rw same (opening_of_alike e f x y y.token.value a p)
  opening_alike e f (taken.Fault x) (taken.Fault y) a p = tt
  opening_alike e f taken.End taken.End a p = tt
  opening_alike e f _ _ a p = absurd p

  with_macro_alike : (m n : Opening) (line here : ℕ) (xs ys : List (List Read)) (e : Expander R) (f : Expander S) → AlikeOpening m n → line ≡ here
      → Pairs (Pairs AlikeRead) xs ys → Like e f → Like (with_macro m line xs e) (with_macro n here ys f)
  with_macro_alike m n line here xs ys e f o l p a = record {
    held = a.held;
    list =
        macro_alike m.name n.name m.definition n.definition (called_at m.text m.token line) (called_at n.text n.token here) xs ys e.list f.list o.name
        o.definition l p a.list;
    reader = a.reader;
    hidden = a.hidden;
  }

  module _ (A : Answers) (answers : AnswersAlike A) where
    abbrev CallsLike : Definition → Called → Expander R → Expander S → Type 0
    CallsLike d c f u = (x : Called) × (h : Expander S) × Calls J A d u x h × AlikeCalled c x × Like f h

    calls_alike : (d g : Definition) (c : Called) (e f : Expander R) (u : Expander S) → AlikeDefinition d g → Like e u → Calls I A d e c f
        → CallsLike g c f u
    calls_alike d g c e f u same a (alone o e1 f1 c1 t p s) =
        let t2 = takes_alike o e f u a t in
        let no_paren = both_none AlikePlace (paren_at o) (paren_at t2.0) (paren_alike o t2.0 t2.3) p in
        (no_call t2.0, t2.1, alone t2.0 u t2.1 (no_call t2.0) t2.2 no_paren (refl {a = no_call t2.0}), rw s t2.3, t2.4)
    calls_alike d g c e f u same a (broken o paren fault e1 i f1 c1 t p more s) =
        let t2 = takes_alike o e i u a t in
        let place = both_some AlikePlace (paren_at o) (paren_at t2.0) paren (paren_alike o t2.0 t2.3) p in
        let later = gathers_alike 0 paren place.0 (Err fault) i f t2.1 place.2 t2.4 more in
        let k = of_err AlikeGathered (λ y. Gathers J 0 place.0 t2.1 y later.1) fault later.0 later.3 later.2 in
        (refused k.0, later.1, broken t2.0 place.0 k.0 u t2.1 later.1 (refused k.0) t2.2 place.1 k.1 (refl {a = refused k.0}), rw s k.2, later.4)
    calls_alike d g c e f u same a (whole o paren gathered answer e1 i f1 c1 t p more w s) =
        let t2 = takes_alike o e i u a t in
        let place = both_some AlikePlace (paren_at o) (paren_at t2.0) paren (paren_alike o t2.0 t2.3) p in
        let later = gathers_alike 0 paren place.0 (Ok gathered) i f t2.1 place.2 t2.4 more in
        let k = of_ok AlikeGathered (λ y. Gathers J 0 place.0 t2.1 y later.1) gathered later.0 later.3 later.2 in
        let site = site_alike f later.1 paren place.0 gathered.tokens k.0.tokens later.4 place.2 k.2.0 in
        let given = answers d g (site_of I f paren gathered.tokens) (site_of J later.1 place.0 k.0.tokens) answer same site w in
        let out = called_by k.0.closing.line given.0 in (
          out,
          later.1,
          whole t2.0 place.0 k.0 given.0 u t2.1 later.1 out t2.2 place.1 k.1 given.1 (refl {a = out}),
          rw s (called_by_alike gathered k.0 answer given.0 k.2 given.2),
          later.4,
        )

    abbrev EmitsLike : Taken → Expander R → Expander S → Type 0
    EmitsLike o f u = (p : Taken) × (g : Expander S) × Emits J A u p g × AlikeTaken o p × Like f g

    pub emits_alike : (e f : Expander R) (o : Taken) (u : Expander S) → Like e u → Emits I A e o f → EmitsLike o f u
    emits_alike e f o u a (itself x o1 e1 f1 t n s) =
        let t2 = takes_alike x e f u a t in
        let closed = both_none AlikeOpening (opening I f x) (opening J t2.1 t2.0) (opening_alike f t2.1 x t2.0 t2.4 t2.3) n in
        let given = found_among t2.1.list t2.0 in
        (given, t2.1, itself t2.0 given u t2.1 t2.2 closed (refl {a = given}), rw s (found_alike f.list t2.1.list x t2.0 t2.3), t2.4)
    emits_alike e f o u a (object x o1 m e1 i f1 t n k more) =
        let t2 = takes_alike x e i u a t in
        let opens = both_some AlikeOpening (opening I i x) (opening J t2.1 t2.0) m (opening_alike i t2.1 x t2.0 t2.4 t2.3) n in
        let line = ap (λ y. y.location.line) opens.2.token in
        let spliced = with_macro_alike m opens.0 m.token.location.line opens.0.token.location.line [] [] i t2.1 opens.2 line tt t2.4 in
        let later = emits_alike (with_macro m m.token.location.line [] i) f o (with_macro opens.0 opens.0.token.location.line [] t2.1) spliced more in
        (later.0, later.1, object t2.0 later.0 opens.0 u t2.1 later.1 t2.2 opens.1 (sym opens.2.definition.0 ∙ k) later.2, later.3, later.4)
    emits_alike e f o u a (name_alone x y o1 m e1 i j f1 t n k c s p) =
        let t2 = takes_alike x e i u a t in
        let opens = both_some AlikeOpening (opening I i x) (opening J t2.1 t2.0) m (opening_alike i t2.1 x t2.0 t2.4 t2.3) n in
        let called = calls_alike m.definition opens.0.definition (no_call y) i j t2.1 opens.2.definition t2.4 c in
        let none = of_no_call (λ z. Calls J A opens.0.definition t2.1 z called.1) y called.0 called.3 called.2 in
        let after : Expander S = record called.1 { held = Some none.0 } in
        let same : Like (record j { held = Some y }) after =
        record { held = none.2; list = called.4.list; reader = called.4.reader; hidden = called.4.hidden } in (
          t2.0,
          after,
          name_alone t2.0 none.0 t2.0 opens.0 u t2.1 called.1 after t2.2 opens.1 (sym opens.2.definition.0 ∙ k) none.1 (refl {a = t2.0}) (refl {a = after}),
          rw s t2.3,
          rw p same,
        )
    emits_alike e f o u a (call_refused x o1 fault m e1 i f1 t n k c s) =
        let t2 = takes_alike x e i u a t in
        let opens = both_some AlikeOpening (opening I i x) (opening J t2.1 t2.0) m (opening_alike i t2.1 x t2.0 t2.4 t2.3) n in
        let called = calls_alike m.definition opens.0.definition (refused fault) i f t2.1 opens.2.definition t2.4 c in
        let none = of_refused (λ z. Calls J A opens.0.definition t2.1 z called.1) fault called.0 called.3 called.2 in
        let given = found_among called.1.list (taken.Fault none.0) in (
          given,
          called.1,
          call_refused t2.0 given none.0 opens.0 u t2.1 called.1 t2.2 opens.1 (sym opens.2.definition.0 ∙ k) none.1 (refl {a = given}),
          rw s (found_alike f.list called.1.list (taken.Fault fault) (taken.Fault none.0) none.2),
          called.4,
        )
    emits_alike e f o u a (call x o1 arguments line m e1 i j f1 t n k c more) =
        let t2 = takes_alike x e i u a t in
        let opens = both_some AlikeOpening (opening I i x) (opening J t2.1 t2.0) m (opening_alike i t2.1 x t2.0 t2.4 t2.3) n in
        let called = calls_alike m.definition opens.0.definition (fits arguments line) i j t2.1 opens.2.definition t2.4 c in
        let some = of_fits (λ z. Calls J A opens.0.definition t2.1 z called.1) arguments line called.0 called.3 called.2 in
        let spliced = with_macro_alike m opens.0 line some.1 arguments some.0 j called.1 opens.2 some.4 some.3 called.4 in
        let later = emits_alike (with_macro m line arguments j) f o (with_macro opens.0 some.1 some.0 called.1) spliced more in (
          later.0,
          later.1,
          call t2.0 later.0 some.0 some.1 opens.0 u t2.1 called.1 later.1 t2.2 opens.1 (sym opens.2.definition.0 ∙ k) some.2 later.2,
          later.3,
          later.4,
        )
