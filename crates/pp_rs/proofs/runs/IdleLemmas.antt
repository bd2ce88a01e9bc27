-- A token of a source, while no macro is open: it is given at once, or it is taken and held, and the expander goes on
-- from there.
use Rattle.std.proofs.Common.{◌≡◌, ◌∙◌, inl, inr, ℕ, Bool, true, false, not, [], ◌∷◌, List, refl, ap, sym, Option, Some, None, Ok, Err}
use Rattle.std.specs.Prelude.{is_none}
use Rattle.std.proofs.lemmas.Bool.{and_parts}
use Rattle.pp_lexer.specs.declared.token.Token.{Token}
use Rattle.pp_lexer.specs.declared.token.TokenValue.{TokenValue}
use Rattle.pp_lexer.specs.declared.token.TokenValue.TheVariants.{Ident}
use Rattle.pp_model.specs.declared.read.Read.{Read}
use Rattle.pp_model.specs.Names.{Name, is_same_name, is_identifier, line_name}
use Rattle.pp_model.specs.Definitions.{Definition}
use Rattle.pp_model.specs.Painting.{read_in}
use Rattle.pp_model.proofs.respelling.SpelledRunLemmas.{or_none}
use Rattle.pp_macros.specs.inner.CallTurns.{TurnsTo, passes, gives, object, seeks}
use Rattle.pp_macros.specs.inner.Defined.{Macro, meaning_of, opened_by}
use Rattle.pp_macros.specs.inner.Frames.{Frame, new_frame, bare_call}
use Rattle.pp_macros.specs.inner.Idle.{IsHeld, HoldsWord}
use Rattle.pp_macros.specs.Item.{PlacedStep}
use Rattle.pp_macros.specs.inner.Expander.{Expander, step_of_outcome, taken_as, StepsFetching, StepsTaking, held, moved}
use Rattle.pp_macros.specs.inner.Plain.{gives_itself}
use Rattle.pp_macros.specs.inner.Reader.{Reader, of_source, ReadsSource}
use Rattle.pp_macros.specs.inner.Reading.{painted_step}
use Rattle.pp_macros.specs.inner.Source.{Source}
use Rattle.pp_rs.specs.inner.SourceTurns.{StepsOver}
use Rattle.pp_macros.specs.inner.Turns.{masks, macro_of_value, Opens}
use Rattle.pp_macros.specs.declared.calls.Taken.{Taken}
use Rattle.pp_macros.specs.declared.calls.Taken.TheVariants as taken
use Rattle.pp_macros.specs.declared.step.PlacedExit.{PlacedExit}
use Rattle.pp_macros.specs.declared.step.PlacedExit.TheVariants.{Continue}
use Rattle.pp_macros.proofs.taking.PlainLemmas.{itself_apart}
use Rattle.pp_macros.proofs.taking.ExpanderLemmas.{idle, fetches_step}

unopened : (name : Name) (o : Option Definition) → is_none o ≡ true → opened_by name o ≡ None
unopened name None e = refl
unopened name (Some definition) e = cc

-- a value that gives itself opens no macro
opens_none : (source : Source) (value : TokenValue) → gives_itself source.definitions value ≡ true → macro_of_value (of_source source) value ≡ None
opens_none source (Ident name) e = unopened name (meaning_of source.definitions name)
    (and_parts (not (is_same_name name line_name)) (is_none (meaning_of source.definitions name)) e).1
opens_none source _ e = refl

-- where nothing is open nothing is painted
painted_nothing : (step : PlacedStep Read) → painted_step [] step ≡ step
painted_nothing (Ok read) = ap (λ (b : Bool). Ok (record read { painted = b })) (or_none read.painted read.token.value)
painted_nothing (Err exit) = refl

-- what a step that is held goes on to, the step by which it came goes on to
module _ (m h : Expander) (r : Reader) (s : Source) (read : Read) (takes : StepsTaking m r (Ok read) (record h { held = None }) (of_source s))
    (holds : h.held ≡ Some (Ok read)) (closed : h.frames ≡ []) where
  refetched : (step : PlacedStep Read) (n : Expander) (t : Reader) → StepsFetching h (of_source s) step n t
      → (step ≡ Ok read) × (n ≡ record h { held = None }) × (t ≡ of_source s)
  refetched step n t (held step1 m1 n1 r1 s1 a b c) = let same : step ≡ Ok read = cc in (same, b, c)
  refetched step n t (moved move step1 m1 n1 r1 s1 a moves b c) = cc

  retaken : (step : PlacedStep Read) (n : Expander) (t : Reader) → StepsTaking h (of_source s) step n t → StepsTaking m r step n t
  retaken step n t steps =
      let back = refetched steps.first n t steps.fetches in
      let none : masks n.frames t ≡ [] = ap (λ (k : Expander). masks k.frames t) back.1 ∙ ap (masks h.frames) back.2
      ∙ ap (λ (fs : List Frame). masks fs (of_source s)) closed in
      let same : step ≡ Ok read = steps.paints ∙ ap (painted_step (masks n.frames t)) back.0
      ∙ ap (λ (names : List Name). painted_step names (Ok read)) none ∙ painted_nothing (Ok read) in
      rw (same, back.1, back.2) takes

  returned : (step : PlacedStep Taken) (n : Expander) (t : Reader) → TurnsTo h (of_source s) step n t → TurnsTo m r step n t
  returned step n t (passes exit step1 m1 n1 r1 s1 steps is) = passes exit step m n r t (retaken (Err exit) n t steps) is
  returned step n t (gives other step1 m1 n1 r1 s1 steps none is) = gives other step m n r t (retaken (Ok other) n t steps) none is
  returned step p t (object other opened step1 m1 n p1 r1 s1 steps some plain is at) =
      object other opened step m n p r t (retaken (Ok other) n t steps) some plain is at
  returned step q t (seeks other opened c step1 m1 n p q1 r1 u t1 steps some function sought finds) =
      seeks other opened c step m n p q r u t (retaken (Ok other) n u steps) some function sought finds

module _ (levels : ℕ) (r s : Source) where
  -- where no macro is open, what comes first is taken as it is
  takes_first : (step : PlacedStep Read) → StepsFetching idle (of_source r) step idle (of_source s) → StepsTaking idle (of_source r) step idle (of_source s)
  takes_first step fetches = record { first = step; fetches = fetches; paints = sym (painted_nothing step) }

  -- a step as which the word is taken
  shown : (word : Token) (step : PlacedStep Read) → ReadsSource r (Ok (read_in r.text word)) s → step ≡ taken_as (Ok (read_in r.text word)) [] (of_source s)
      → StepsTaking idle (of_source r) step idle (of_source s)
  shown word step comes is = takes_first step (fetches_step idle None None [] [] (Ok (read_in r.text word)) step (of_source r) (of_source s)
      refl refl refl (refl, comes) is)

  -- a token that isn't `__LINE__` is taken as it stands there
  takes_token : (token : Token) → ReadsSource r (Ok (read_in r.text token)) s → is_identifier line_name token.value ≡ false
      → StepsTaking idle (of_source r) (Ok (read_in r.text token)) idle (of_source s)
  takes_token token comes apart = shown token (Ok (read_in r.text token)) comes (rw apart refl)

  exits : (exit : PlacedExit) (step : PlacedStep Read) → StepsTaking idle (of_source r) (Err exit) idle (of_source s) → step ≡ Err exit
      → StepsOver levels idle r step idle s
  exits exit step takes is =
      let turns = passes exit (Err exit) idle idle (of_source r) (of_source s) takes refl in
      inl (record { taken = Err exit; between = idle; turns = turns; follows = (is, refl) })

  -- a pause, a fault or the end of the source
  pub idle_exit : (m : Expander) (exit : PlacedExit) (step : PlacedStep Read) → m ≡ idle → ReadsSource r (Err exit) s
      → step ≡ Err exit → StepsOver levels m r step m s
  idle_exit m exit step e comes is =
      let fetches = fetches_step idle None None [] [] (Err exit) (Err exit) (of_source r) (of_source s) refl refl refl
      (refl, comes) refl in
      rw e (exits exit step (takes_first (Err exit) fetches) is)

  -- a token that is given as it stands there
  pub idle_token : (m : Expander) (token : Token) → m ≡ idle → ReadsSource r (Ok (read_in r.text token)) s
      → gives_itself s.definitions token.value ≡ true → StepsOver levels m r (Ok (read_in r.text token)) m s
  idle_token m token e comes itself =
      let read = read_in r.text token in
      let turns = gives read (Ok (taken.Token read)) idle idle (of_source r) (of_source s)
      (takes_token token comes (itself_apart s.definitions token.value itself)) (opens_none s token.value itself) refl in
      rw e (inl (record { taken = Ok (taken.Token read); between = idle; turns = turns; follows = (refl, refl) }))

  -- the name of a macro without parentheses, which opens
  pub idle_opens : (m n : Expander) (token : Token) (opened : Macro) → m ≡ idle → ReadsSource r (Ok (read_in r.text token)) s
      → is_identifier line_name token.value ≡ false → Opens (of_source s) (read_in r.text token) opened
      → opened.definition.function_like ≡ false → n ≡ record m { frames = new_frame opened (bare_call r.text token.location) [] ∷ m.frames }
      → StepsOver levels m r (Err Continue) n s
  idle_opens m n token opened e comes apart opens bare is =
      let after : Expander = record { held = None; frames = new_frame opened (bare_call r.text token.location) [] ∷ [] } in
      let turns = object (read_in r.text token) opened (Err Continue) idle idle after (of_source r) (of_source s)
      (takes_token token comes apart) opens bare refl refl in
      rw (is, e) (inl (record { taken = Err Continue; between = after; turns = turns; follows = (refl, refl) }))

  -- `__LINE__` out of range
  pub idle_fault : (m n : Expander) (word : Token) (exit : PlacedExit) (step : PlacedStep Read) → m ≡ idle
      → ReadsSource r (Ok (read_in r.text word)) s → HoldsWord r.text word s m (Err exit) n → step ≡ Err exit → StepsOver levels m r step n s
  idle_fault m n word exit step e comes fault is =
      rw (fault.2, e) (exits exit step (shown word (Err exit) comes (ap Err fault.0 ∙ ap step_of_outcome (sym fault.1))) is)

  -- a word that is held goes on to what it goes on to as it is read
  pub idle_word : (m h n : Expander) (t : Source) (word : Token) (step : PlacedStep Read) → m ≡ idle
      → ReadsSource r (Ok (read_in r.text word)) s → IsHeld r.text word s m h → StepsOver levels h s step n t → StepsOver levels m r step n t
  idle_word m h n t word step e comes w steps = rw e (goes (rw (w.holds, e) at steps))
    where
      kept : Expander
      kept = record { held = Some (Ok w.token); frames = [] }

      takes : StepsTaking idle (of_source r) (Ok w.token) idle (of_source s)
      takes = shown word (Ok w.token) comes (ap step_of_outcome (sym w.taken))

      goes : StepsOver levels kept s step n t → StepsOver levels idle r step n t
      goes (inl x) =
          let turns = returned idle kept (of_source r) s w.token takes refl refl x.taken x.between (of_source t) x.turns in
          inl (record { taken = x.taken; between = x.between; turns = turns; follows = x.follows })
      goes (inr x) =
          inr (record { some = record { step = Ok w.token; after = idle; reader = of_source s; takes = takes; goes = refl }; fault = x.fault })
