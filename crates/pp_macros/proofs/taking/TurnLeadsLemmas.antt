-- Each turn of an expander with calls leads the definitions' expander to the same item, for every kind of reader.
use Rattle.std.proofs.Common.{◌≡◌, ◌∙◌, true, false, ℕ, Bool, List, [], ◌∷◌, refl, sym, ap, subst, Option, Some, None}
use Rattle.std.specs.Prelude.{if◌then◌else◌, ◌||◌, Result, Ok, Err}
use Rattle.pp_model.specs.declared.place.Place.{Place}
use Rattle.pp_model.specs.Places.{PlacedFault, fault_in}
use Rattle.pp_model.specs.declared.read.Read.{Read}
use Rattle.pp_lexer.specs.declared.token.TokenValue.{TokenValue}
use Rattle.pp_lexer.specs.declared.token.TokenValue.TheVariants.{Ident}
use Rattle.pp_model.specs.Names.{Name}
use Rattle.pp_model.specs.Definitions.{Definition}
use Rattle.pp_model.specs.Reading.{Reading, Expander, Opening, opening, opening_of}
use Rattle.pp_model.specs.inner.Reading.{opening_by}
use Rattle.pp_model.specs.Taking.{Takes}
use Rattle.pp_model.specs.Calls as calls
use Rattle.pp_model.specs.Calls.{Gathered, Answers, paren_at, is_left_paren, site_of}
use Rattle.pp_model.specs.Emitting as emitting
use Rattle.pp_model.specs.Emitting.{Emits, with_macro}
use Rattle.pp_model.specs.inner.Emitting.{holding}
use Rattle.pp_model.specs.SpliceList.{macro_before, outermost_call}
use Rattle.pp_model.specs.ItemCall.{item_call}
use Rattle.pp_model.specs.declared.splice.Entry.{Entry}
use Rattle.pp_model.specs.declared.read.Taken.TheVariants as given
use Rattle.pp_model.specs.declared.splice.CallPlace.{CallPlace}
use Rattle.pp_macros.specs.inner.CallTurns.{Sought, no_call, Seeks, alone, called, Finds, TurnsTo, passes, gives, object, seeks, paren_of, sought_by}
use Rattle.pp_macros.specs.Item.{PlacedStep, wants_memory}
use Rattle.pp_macros.specs.inner.Frames.{Frame, new_frame, flat, bare_call, outermost_frame_call}
use Rattle.pp_macros.specs.inner.Expander as kept
use Rattle.pp_macros.specs.inner.Expander.{kept_call, outcome_of_step, StepsTaking, TakesNext}
use Rattle.pp_macros.specs.inner.Reader.{Reader, Reads, hidden_of, shown_line, visible}
use Rattle.pp_macros.specs.inner.Turns.{macro_of, macro_of_value}
use Rattle.pp_macros.specs.inner.Defined.{Macro, opened_by}
use Rattle.pp_macros.specs.declared.calls.Taken.{Taken}
use Rattle.pp_macros.specs.declared.calls.Taken.TheVariants as taken
use Rattle.pp_macros.specs.declared.step.PlacedExit.{PlacedExit}
use Rattle.pp_macros.specs.declared.step.PlacedExit.TheVariants.{Error, Continue, Finished}
pub use Rattle.pp_macros.proofs.open_frames.ReportedLemmas.{wants_taken}
use Rattle.pp_macros.proofs.open_frames.ReportedLemmas.{exit_reported, not_refused}
use Rattle.pp_macros.proofs.open_frames.FlatLemmas.{outermost_flat}
use Rattle.pp_macros.proofs.taking.CallStaysLemmas.{token_call}
use Rattle.pp_macros.proofs.taking.PauseLemmas.{EmitsLater, pause_emits}
use Rattle.pp_macros.proofs.taking.TakingLemmas.{as_opening}
use Rattle.pp_macros.proofs.taking.SearchSimulates
use Rattle.pp_macros.proofs.taking.SearchSimulates.{step_frees, GathersTo, ReadsTo, StandsIn, step_simulates, next_simulates, gather_simulates}

-- the call from which an item comes before which the list was `before` and after which it is `after`: what is held was met in the
-- search for a `(` after the item
abbrev pub item_call_after : Option (PlacedStep Read) → List Entry → List Entry → Option CallPlace
item_call_after None before after = outermost_call after
item_call_after (Some step) before after = outermost_call before

-- over frames that is the call that is kept
pub calls_same : (o : Option (PlacedStep Read)) (first last : List Entry) (frames left : List Frame) → first ≡ flat frames → last ≡ flat left
    → kept_call o (outermost_frame_call frames) left ≡ item_call_after o first last
calls_same None first last frames left is becomes = sym (ap outermost_call becomes ∙ outermost_flat left)
calls_same (Some step) first last frames left is becomes = sym (ap outermost_call is ∙ outermost_flat frames)

-- with nothing held it is that of the outermost frame
pub free_call_same : (o : Option (PlacedStep Read)) (call : Option CallPlace) (left : List Frame) → o ≡ None → (after : List Entry) → after ≡ flat left
    → kept_call o call left ≡ outermost_call after
free_call_same None call left free after becomes = sym (ap outermost_call becomes ∙ outermost_flat left)
free_call_same (Some step) call left free after becomes = cc

module _ {R : Type 0} (I : Reading R) (StandsR : Reader → R → Type 0) (hidden : List Name)
    (simulates : (r s : Reader) (x : R) (step : PlacedStep Read) → StandsR r x → Reads r step s → wants_memory step ≡ false → ReadsTo I StandsR hidden step x s)
    (shows : (s : Reader) (y : R) (line : ℕ) → StandsR s y → I.shown_line y line ≡ shown_line s line)
    (hides : (s : Reader) (y : R) → StandsR s y → hidden_of s ≡ hidden)
    (sees : (s : Reader) (y : R) (name : Name) → StandsR s y → visible s name ≡ (if I.is_reserved name then None else I.visible y name))
    (A : Answers) where
  -- what one turn is to the expander
  abbrev pub LeadsTo : PlacedStep Taken → Expander R → kept.Expander → Reader → Type 0
  LeadsTo (Ok (taken.Token read)) e n s = (f : Expander R) × (emits : Emits I A e (given.Token read) f) × StandsIn I StandsR hidden n s f
      × (item_call emits ≡ item_call_after n.held e.list f.list)
  LeadsTo (Ok (taken.Call c)) e n s =
      (f : Expander R) × StandsIn I StandsR hidden n s f
      × ((fault : PlacedFault) → A c.opened.definition (site_of I f c.paren c.tokens) (Err fault)
      → (emits : Emits I A e (given.Fault (fault_in (outermost_call f.list) fault)) f)
      × (item_call emits ≡ (fault_in (outermost_call f.list) fault).1.call))
      × ((arguments : List (List Read)) → A c.opened.definition (site_of I f c.paren c.tokens) (Ok arguments)
      → EmitsLater I A e (record f { list = macro_before c.opened.name c.opened.definition c.call arguments f.list }))
  LeadsTo (Err Continue) e n s = (f : Expander R) × StandsIn I StandsR hidden n s f × EmitsLater I A e f
  LeadsTo (Err Finished) e n s = (f : Expander R) × (emits : Emits I A e given.End f) × StandsIn I StandsR hidden n s f
      × (n.held ≡ None) × (item_call emits ≡ outermost_call f.list)
  LeadsTo (Err (Error fault)) e n s =
      (f : Expander R) × (emits : Emits I A e (given.Fault (fault_in (outermost_call f.list) fault)) f) × StandsIn I StandsR hidden n s f
      × (item_call emits ≡ (fault_in (outermost_call f.list) fault).1.call)

  -- the macro that a token opens over frames is the one that it opens over their list
  opens_same : (s : Reader) (f : Expander R) (read : Read) → StandsR s f.reader
      → opening I f (given.Token read) ≡ as_opening read (macro_of s read)
  opens_same s f read reader = go read.token.value
    where
      paint : (reserved painted : Bool) (name : Name) (d : Option Definition) → (if reserved || painted then None else opening_by read name d)
          ≡ as_opening read (if painted then None else opened_by name (if reserved then None else d))
      paint true true name d = refl
      paint true false name d = refl
      paint false true name d = refl
      paint false false name None = refl
      paint false false name (Some d) = refl

      unopened : (painted : Bool) → None ≡ as_opening read (if painted then None else None)
      unopened true = refl
      unopened false = refl

      go : (value : TokenValue) → opening_of I f read value ≡ as_opening read (if read.painted then None else macro_of_value s value)
      go (Ident name) = paint (I.is_reserved name) read.painted name (I.visible f.reader name)
          ∙ ap (λ d. as_opening read (if read.painted then None else opened_by name d)) (sym (sees s f.reader name reader))
      go _ = unopened read.painted

  exit_leads : (exit : PlacedExit) (m n : kept.Expander) (r s : Reader) (e : Expander R) → StandsIn I StandsR hidden m r e → StepsTaking m r (Err exit) n s
      → wants_memory {T = Read} (Err exit) ≡ false → LeadsTo (Err exit) e n s
  exit_leads Continue m n r s e stands steps reported =
      let h = step_simulates I StandsR hidden simulates shows hides m n r s (Err Continue) e stands steps refl in
      (h.0, h.1, pause_emits I A e h.0 h.2)
  exit_leads Finished m n r s e stands steps reported =
      let h = step_simulates I StandsR hidden simulates shows hides m n r s (Err Finished) e stands steps refl in (
        h.0,
        emitting.itself given.End given.End e h.0 h.1 refl refl,
        h.2,
        step_frees I StandsR hidden simulates shows hides m n r s (Err Finished) steps,
        refl,
      )
  exit_leads (Error fault) m n r s e stands steps reported =
      let h = step_simulates I StandsR hidden simulates shows hides m n r s (Err (Error fault)) e stands steps reported in (
        h.0,
        emitting.itself (given.Fault fault) (given.Fault (fault_in (outermost_call h.0.list) fault)) e h.0 h.1 refl refl,
        h.2,
        refl,
      )

  no_paren : (next : PlacedStep Read) → paren_of next ≡ None → paren_at (outcome_of_step next) ≡ None
  no_paren (Ok read) h = h
  no_paren (Err Continue) h = refl
  no_paren (Err Finished) h = refl
  no_paren (Err (Error fault)) h = refl

  some_paren : (next : PlacedStep Read) (paren : Place) → paren_of next ≡ Some paren → (read : Read) × (next ≡ Ok read)
      × (paren_at (given.Token read) ≡ Some paren)
  some_paren (Ok read) paren h = (read, refl, h)
  some_paren (Err exit) paren h = cc

  -- a call that was gathered, or its fault
  call_leads : (read : Read) (opened : Macro) (first : Read) (paren : Place) (step : PlacedStep Taken)
      (p q : kept.Expander) (t : Reader) (e f h : Expander R) (g : Result Gathered PlacedFault) → Takes I e (given.Token read) f
      → opening I f (given.Token read) ≡ Some (record { text = read.text; token = read.token; name = opened.name; definition = opened.definition }) → opened.definition.function_like ≡ true
      → Takes I f (given.Token first) h → paren_at (given.Token first) ≡ Some paren
      → GathersTo I StandsR hidden simulates shows hides 0 paren h g p t → Finds read opened (sought_by paren g) step p q → LeadsTo step e q t
  call_leads read opened first paren step p q t e f h (Err fault) takes macro_of function takes_paren at (k, gathers, stands) (is, becomes) =
      let m : Opening = record { text = read.text; token = read.token; name = opened.name; definition = opened.definition } in
      rw (is, becomes) (
        k,
        emitting.call_refused (given.Token read) (given.Fault (fault_in (outermost_call k.list) fault)) fault m e f k takes macro_of function
            (calls.broken (given.Token first) paren fault f h k (calls.refused fault) takes_paren at gathers refl) refl,
        stands,
        refl,
      )
  call_leads read opened first paren step p q t e f h (Ok g) takes macro_of function takes_paren at (k, gathers, stands) (is, becomes) =
      let m : Opening = record { text = read.text; token = read.token; name = opened.name; definition = opened.definition } in
      rw (is, becomes) (
        k,
        stands,
        (λ fault answers. (
          emitting.call_refused (given.Token read) (given.Fault (fault_in (outermost_call k.list) fault)) fault m e f k takes macro_of function
              (calls.whole (given.Token first) paren g (Err fault) f h k (calls.refused fault) takes_paren at gathers answers refl) refl,
          refl,
        )),
        (λ arguments answers o l emits. (
          emitting.call (given.Token read) o arguments g.closing.line m e f k l takes macro_of function
              (calls.whole (given.Token first) paren g (Ok arguments) f h k (calls.fits arguments g.closing.line) takes_paren at gathers answers refl) emits,
          refl,
        )),
      )

  -- what is sought after a name
  seek_leads : (read : Read) (opened : Macro) (c : Sought) (step : PlacedStep Taken)
      (n p q : kept.Expander) (s t : Reader) (e f : Expander R) → Takes I e (given.Token read) f → StandsIn I StandsR hidden n s f
      → opening I f (given.Token read) ≡ Some (record { text = read.text; token = read.token; name = opened.name; definition = opened.definition }) → opened.definition.function_like ≡ true
      → outermost_call f.list ≡ outermost_call e.list → Seeks n s c p t → Finds read opened c step p q → LeadsTo step e q t
  seek_leads read opened c step n p q s t e f takes stands macro_of function same (alone next n1 p1 s1 t1 c1 taken_next none reported is) found =
      let m : Opening = record { text = read.text; token = read.token; name = opened.name; definition = opened.definition } in
      let h = next_simulates I StandsR hidden simulates shows hides n p s t next f stands taken_next (not_refused next reported) in
      let found' : Finds read opened (no_call next) step p q = subst (λ (x : Sought). Finds read opened x step p q) is found in
      rw (found'.0, found'.1) (
        holding (outcome_of_step next) h.0,
        emitting.name_alone (given.Token read) (outcome_of_step next) (given.Token read) m e f h.0
            (holding (outcome_of_step next) h.0) takes macro_of function
            (calls.alone (outcome_of_step next) f h.0 (calls.no_call (outcome_of_step next)) h.1 (no_paren next none) refl) refl refl,
        h.2,
        same,
      )
  seek_leads read opened c step n p q s t e f takes stands macro_of function same
      (called next paren n1 between p1 s1 u t1 g c1 taken_next at gathers is) found =
      let first = some_paren next paren at in
      let h = SearchSimulates.token_stands I StandsR hidden simulates shows hides first.0 n between s u f stands
      (subst (λ (x : PlacedStep Read). TakesNext n s x between u) first.1 taken_next) in
      call_leads read opened first.0 paren step p q t e f h.0 g takes macro_of function h.1 first.2
      (gather_simulates I StandsR hidden simulates shows hides 0 paren between p u t g h.0 h.2 gathers)
      (subst (λ (x : Sought). Finds read opened x step p q) is found)

  object_leads : (read : Read) (opened : Macro) (n p : kept.Expander) (s : Reader) (e f : Expander R)
      → Takes I e (given.Token read) f → StandsIn I StandsR hidden n s f → n.held ≡ None
      → opening I f (given.Token read) ≡ Some (record { text = read.text; token = read.token; name = opened.name; definition = opened.definition }) → opened.definition.function_like ≡ false
      → p ≡ record n { frames = new_frame opened (bare_call read.text read.token.location) [] ∷ n.frames } → LeadsTo (Err Continue) e p s
  object_leads read opened n p s e f takes stands free macro_of plain is =
      let m : Opening = record { text = read.text; token = read.token; name = opened.name; definition = opened.definition } in
      rw is (
        with_macro m read.token.location.line [] f,
        record {
          holds = stands.holds;
          list = ap (macro_before opened.name opened.definition (bare_call read.text read.token.location) []) stands.list;
          reader = stands.reader;
          names = stands.names;
          goes = stands.goes;
        },
        λ o g emits. (emitting.object (given.Token read) o m e f g takes macro_of plain emits, refl),
      )

  as_opens : (s : Reader) (f : Expander R) (read : Read) (m : Option (Name × Definition)) → StandsR s f.reader → macro_of s read ≡ m
      → opening I f (given.Token read) ≡ as_opening read m
  as_opens s f read m reader is = opens_same s f read reader ∙ ap (as_opening read) is

  -- One turn: a token, a fault or the end is the next item, a pause keeps it, and a call goes on by its answer.
  pub turn_leads : (m n : kept.Expander) (r s : Reader) (step : PlacedStep Taken) (e : Expander R) → StandsIn I StandsR hidden m r e → TurnsTo m r step n s
      → wants_taken step ≡ false → LeadsTo step e n s
  turn_leads m n r s step e stands (passes exit step1 m1 n1 r1 s1 steps is) reported =
      rw is (exit_leads exit m n r s e stands steps (exit_reported exit (rw is at reported)))
  turn_leads m n r s step e stands (gives read step1 m1 n1 r1 s1 steps none is) reported =
      let h = step_simulates I StandsR hidden simulates shows hides m n r s (Ok read) e stands steps refl in
      let freed : None ≡ n.held = sym (step_frees I StandsR hidden simulates shows hides m n r s (Ok read) steps) in
      rw is (
        h.0,
        emitting.itself (given.Token read) (given.Token read) e h.0 h.1 (as_opens s h.0 read None h.2.reader none) refl,
        h.2,
        ap (λ o. item_call_after o e.list h.0.list) freed,
      )
  turn_leads m p r s step e stands (object read opened step1 m1 n p1 r1 s1 steps some plain is at) reported =
      let h = step_simulates I StandsR hidden simulates shows hides m n r s (Ok read) e stands steps refl in
      rw is (object_leads read opened n p s e h.0 h.1 h.2 (step_frees I StandsR hidden simulates shows hides m n r s (Ok read) steps)
      (as_opens s h.0 read (Some (opened.name, opened.definition)) h.2.reader some.is) plain at)
  turn_leads m q r t step e stands (seeks read opened c step1 m1 n p q1 r1 s t1 steps some function sought found) reported =
      let h = step_simulates I StandsR hidden simulates shows hides m n r s (Ok read) e stands steps refl in
      let same : outermost_call h.0.list ≡ outermost_call e.list = ap outermost_call h.2.list ∙ outermost_flat n.frames ∙ token_call m n r s read steps
      ∙ sym (ap outermost_call stands.list ∙ outermost_flat m.frames) in
      seek_leads read opened c step n p q s t e h.0 h.1 h.2 (as_opens s h.0 read (Some (opened.name, opened.definition)) h.2.reader some.is) function same sought found
