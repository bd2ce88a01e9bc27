-- Reading the line of an `#if`, `#elif` or `#line`: each step of the code reads what the definitions read.
use Rattle.std.proofs.Common.{◌≡◌, ◌≢◌, ◌∙◌, inl, inr, true, false, ℕ, ◌≤◌, List, [], ◌∷◌, ◌++◌, refl, sym, ap, subst, Option, Some, None, Bool}
use Rattle.std.specs.Prelude.{if◌then◌else◌, Result, Ok, Err, option_map, unwrap_or, ⊤}
use Rattle.pp_model.specs.Places.{PlacedFault, fault_in, place_of}
use Rattle.pp_model.specs.Numbering.{number_of}
use Rattle.pp_model.specs.declared.read.Read.{Read}
use Rattle.pp_model.specs.Calls.{Gathered, Site, site_of}
use Rattle.pp_model.specs.Emitting.{answers_at}
use Rattle.pp_model.specs.Names.{Name, is_identifier, line_name}
use Rattle.pp_model.specs.Reading.{Expander, Listed, line_reading}
use Rattle.pp_model.specs.SpliceList.{macro_before, outermost_call}
use Rattle.pp_model.specs.Taking.{Takes, line_number}
use Rattle.pp_model.specs.declared.read.Taken.{Taken as Given}
use Rattle.pp_model.specs.declared.read.Taken.TheVariants as given
use Rattle.pp_model.specs.declared.splice.CallPlace.{CallPlace}
use Rattle.pp_model.specs.declared.splice.Entry.{Entry}
use Rattle.pp_macros.specs.inner.Calling.{MacroCall}
use Rattle.pp_macros.specs.inner.CallTurns.{Sought, no_call, refused, gathered, sought_by, Seeks, alone, called, Finds, TurnsTo, passes, gives, object, seeks}
use Rattle.pp_macros.specs.inner.Defined.{Macro, Defined}
use Rattle.pp_macros.specs.inner.Finishing.{site_at, IsOpened}
use Rattle.pp_macros.specs.inner.Frames.{Frame, Advance, advance, names_of, outermost_frame_call, outermost_frame_line}
use Rattle.pp_macros.specs.Item.{PlacedStep, wants_memory, is_out_of_memory}
use Rattle.pp_macros.specs.inner.Left.{work_of, IsSound, most_open, most_bodies, regions}
use Rattle.pp_directives.specs.inner.LineItems.{FindsItem, expander_of, IsHeld, IsOnLine, ReadsOn, IsWorkLess}
use Rattle.pp_macros.specs.inner.Expander as kept
use Rattle.pp_macros.specs.inner.Expander.{kept_call, outcome_of_step, step_of_outcome, taken_as, is_pause, StepsFetching, StepsTaking, held, moved, TakesNext, now, later}
use Rattle.pp_macros.specs.inner.Reader.{Reader, of_source, of_list, Listing, listed_step}
use Rattle.pp_macros.specs.inner.Reading.{painted_step}
use Rattle.pp_macros.specs.inner.Turns.{Moves, as_pause, frame_move, masks}
use Rattle.pp_macros.specs.declared.calls.Taken.{Taken}
use Rattle.pp_macros.specs.declared.calls.Taken.TheVariants as taken
use Rattle.pp_macros.specs.declared.step.PlacedExit.{PlacedExit}
use Rattle.pp_macros.specs.declared.step.PlacedExit.TheVariants.{Error, Continue, Finished}
use Rattle.pp_macros.proofs.work.CallFallsLemmas.{IsLess, IsPending, turn_falls}
use Rattle.pp_macros.proofs.taking.ListedLeadsLemmas.{IsListed, list_simulates, list_shows, list_hides, list_sees, StandsListed, listed_leads, site_same, opened_less}
use Rattle.pp_macros.proofs.taking.ExpanderLemmas.{next_no_pause}
use Rattle.pp_macros.proofs.open_frames.OpenSoundLemmas.{next_sound}
use Rattle.pp_macros.proofs.open_frames.ReportedLemmas.{wants_taken, not_refused, painted_reported, taken_reported}
use Rattle.pp_macros.proofs.work.ReachLemmas.{frame_steps_level}
use Rattle.pp_macros.proofs.taking.SearchSimulates.{next_simulates}
use Rattle.pp_macros.proofs.work.SpendLemmas.{step_spends, next_left, next_spends, no_more}
use Rattle.pp_macros.proofs.taking.PauseLemmas.{EmitsLater}
use Rattle.pp_macros.proofs.taking.TurnLeadsLemmas.{LeadsTo, calls_same}
use Rattle.pp_macros.proofs.open_frames.FlatLemmas.{outermost_flat}
use Rattle.pp_macros.proofs.work.WorkFallsLemmas.{frame_of, no_more_work}
use Rattle.pp_model.specs.declared.numbering.Numbering.{Numbering}

-- a list, and no source
abbrev IsList : Reader → Type 0
IsList (of_source source) = ⊥
IsList (of_list l) = ⊤

abbrev IsNoFault : PlacedStep Read → Type 0
IsNoFault (Ok read) = ⊤
IsNoFault (Err Continue) = ⊤
IsNoFault (Err Finished) = ⊤
IsNoFault (Err (Error fault)) = ⊥

-- A list has no fault of its own: what is taken there is a token, a pause or the end.
record IsQuiet (step : PlacedStep Read) (s : Reader) : Type 0 where
  quiet : IsNoFault step
  list : IsList s

taken_quiet : (move : PlacedStep Read) (fs : List Frame) (s : Reader) → IsList s → IsNoFault move → IsNoFault (taken_as move fs s)
taken_quiet (Err exit) fs s list h = h
taken_quiet (Ok read) fs (of_source source) list h = absurd list
taken_quiet (Ok read) fs (of_list l) list h = go (is_identifier line_name read.token.value)
  where
    go : (b : Bool) → IsNoFault (step_of_outcome (if b then line_number (place_of read)
        (Some (number_of l.numbering (unwrap_or (outermost_frame_line fs) read.token.location.line))) else given.Token read))
    go true = tt
    go false = tt

listed_quiet : (tokens : List Read) → IsNoFault (listed_step tokens)
listed_quiet [] = tt
listed_quiet (read ∷ tokens) = tt

pause_quiet : (o : Option Read) → IsNoFault (as_pause o)
pause_quiet None = tt
pause_quiet (Some read) = tt

frame_quiet : (fs : List Frame) (o : Option Advance) → IsNoFault (frame_move fs o).gives
frame_quiet fs None = tt
frame_quiet fs (Some a) = pause_quiet a.gives

moves_quiet : (frames gs : List Frame) (r s : Reader) (move : PlacedStep Read) → IsList r → Moves frames r move gs s → wants_memory move ≡ false → IsQuiet move s
moves_quiet [] gs (of_list old) (of_list new) move list (e, inl h) reported = record { quiet = rw h.0 (listed_quiet old.tokens); list = tt }
moves_quiet [] gs (of_list old) (of_list new) move list (e, inr h) reported = absurd (let bad : true ≡ false = rw h at reported in cc)
moves_quiet [] gs (of_list old) (of_source new) move list (e, h) reported = absurd h
moves_quiet [] gs (of_source old) s move list h reported = absurd list
moves_quiet (f ∷ fs) gs r s move list (same, inl h) reported = record { quiet = rw h.0 (frame_quiet fs (advance f)); list = rw same list }
moves_quiet (f ∷ fs) gs r s move list (same, inr h) reported = absurd (let bad : true ≡ false = rw h at reported in cc)

held_quiet : (step : PlacedStep Read) → IsHeld (Some step) → IsNoFault step
held_quiet (Ok read) h = tt
held_quiet (Err Continue) h = tt
held_quiet (Err Finished) h = tt
held_quiet (Err (Error fault)) h = h

quiet_held : (step : PlacedStep Read) → IsNoFault step → is_pause step ≡ false → IsHeld (Some step)
quiet_held (Ok read) h goes = tt
quiet_held (Err Continue) h goes = cc
quiet_held (Err Finished) h goes = tt
quiet_held (Err (Error fault)) h goes = h

-- and no pause
holds_step : (o : Option (PlacedStep Read)) → IsHeld o → o ≢ Some (Err Continue)
holds_step o h is = subst IsHeld is h

free_held : (o : Option (PlacedStep Read)) → o ≡ None → IsHeld o
free_held o e = subst IsHeld (sym e) tt

fetch_frees : (m n : kept.Expander) (r s : Reader) (step : PlacedStep Read) → StepsFetching m r step n s → n.held ≡ None
fetch_frees m n r s step (held step1 m1 n1 r1 s1 is at same) = ap (λ (k : kept.Expander). k.held) at
fetch_frees m n r s step (moved move step1 m1 n1 r1 s1 free moves is freed) = freed

step_frees : (m n : kept.Expander) (r s : Reader) (step : PlacedStep Read) → StepsTaking m r step n s → n.held ≡ None
step_frees m n r s step steps = fetch_frees m n r s steps.first steps.fetches

fetch_quiet : (m n : kept.Expander) (r s : Reader) (step : PlacedStep Read) → IsList r → IsHeld m.held → StepsFetching m r step n s → wants_memory step ≡ false
    → IsQuiet step s
fetch_quiet m n r s step list holds (held step1 m1 n1 r1 s1 is at same) reported =
    record { quiet = held_quiet step (subst IsHeld is holds); list = rw same list }
fetch_quiet m n r s step list holds (moved move step1 m1 n1 r1 s1 free moves is freed) reported =
    let h = moves_quiet m.frames n.frames r s move list moves (taken_reported move n.frames s (rw is at reported)) in
    record { quiet = rw is (taken_quiet move n.frames s h.list h.quiet); list = h.list }

painted_quiet : (names : List Name) (first : PlacedStep Read) → IsNoFault first → IsNoFault (painted_step names first)
painted_quiet names (Ok read) h = h
painted_quiet names (Err exit) h = h

step_quiet : (m n : kept.Expander) (r s : Reader) (step : PlacedStep Read) → IsList r → IsHeld m.held → StepsTaking m r step n s → wants_memory step ≡ false
    → IsQuiet step s
step_quiet m n r s step list holds steps reported =
    let names = masks n.frames s in
    let h = fetch_quiet m n r s steps.first list holds steps.fetches (painted_reported names steps.first (rw steps.paints at reported)) in
    record { quiet = rw steps.paints (painted_quiet names steps.first h.quiet); list = h.list }

next_quiet : (m n : kept.Expander) (r s : Reader) (step : PlacedStep Read) → IsList r → IsHeld m.held → TakesNext m r step n s → wants_memory step ≡ false → IsQuiet step s
next_quiet m n r s step list holds (now step1 m1 n1 r1 s1 steps goes) reported = step_quiet m n r s step list holds steps reported
next_quiet m n r s step list holds (later step1 m1 between n1 r1 s1 t1 steps next) reported =
    let h = step_quiet m between r s1 (Err Continue) list holds steps refl in
    next_quiet between n s1 s step h.list (free_held between.held (step_frees m between r s1 (Err Continue) steps)) next reported

-- so what is taken next is no fault
pub next_no_fault : (m n : kept.Expander) (l k : Listing) (fault : PlacedFault) → IsHeld m.held → TakesNext m (of_list l) (Err (Error fault)) n (of_list k)
    → is_out_of_memory fault.0 ≡ false → ⊥
next_no_fault m n l k fault holds next reported = (next_quiet m n (of_list l) (of_list k) (Err (Error fault)) tt holds next reported).quiet

-- what is held after a turn; after a call it is said elsewhere
abbrev HoldsAfter : PlacedStep Taken → kept.Expander → Type 0
HoldsAfter (Ok (taken.Token read)) n = IsHeld n.held
HoldsAfter (Ok (taken.Call c)) n = ⊤
HoldsAfter (Err Continue) n = IsHeld n.held
HoldsAfter (Err Finished) n = IsHeld n.held
HoldsAfter (Err (Error fault)) n = ⊤

free_after : (step : PlacedStep Taken) (n : kept.Expander) → n.held ≡ None → HoldsAfter step n
free_after (Ok (taken.Token read)) n e = free_held n.held e
free_after (Ok (taken.Call c)) n e = tt
free_after (Err Continue) n e = free_held n.held e
free_after (Err Finished) n e = free_held n.held e
free_after (Err (Error fault)) n e = tt

sought_holds : (read : Read) (opened : Macro) (c : Sought) (step : PlacedStep Taken) (n p q : kept.Expander) (s t : Reader) → IsList s
    → n.held ≡ None → Seeks n s c p t → Finds read opened c step p q → HoldsAfter step q
sought_holds read opened c step n p q s t list free (alone next n1 p1 s1 t1 c1 taken_next none reported is) found =
    let found' : Finds read opened (no_call next) step p q = subst (λ (x : Sought). Finds read opened x step p q) is found in
    let quiet = next_quiet n p s t next list (free_held n.held free) taken_next (not_refused next reported) in
    rw (found'.0, found'.1) (quiet_held next quiet.quiet (next_no_pause n p s t next taken_next))
sought_holds read opened c step n p q s t list free (called next paren n1 between p1 s1 u t1 g c1 taken_next at gathers is) found =
    go g (subst (λ (x : Sought). Finds read opened x step p q) is found)
  where
    go : (g : Result Gathered PlacedFault) → Finds read opened (sought_by paren g) step p q → HoldsAfter step q
    go (Err fault) h = rw h.0 tt
    go (Ok g) h = rw h.0 tt

turn_holds : (m n : kept.Expander) (r s : Reader) (step : PlacedStep Taken) → IsList r → IsHeld m.held → TurnsTo m r step n s → HoldsAfter step n
turn_holds m n r s step list holds (passes exit step1 m1 n1 r1 s1 steps is) = free_after step n (step_frees m n r s (Err exit) steps)
turn_holds m n r s step list holds (gives read step1 m1 n1 r1 s1 steps none is) = free_after step n (step_frees m n r s (Ok read) steps)
turn_holds m p r s step list holds (object read opened step1 m1 n p1 r1 s1 steps some plain is at) =
    free_after step p (ap (λ (k : kept.Expander). k.held) at ∙ step_frees m n r s (Ok read) steps)
turn_holds m q r t step list holds (seeks read opened c step1 m1 n p q1 r1 s t1 steps some function sought found) =
    sought_holds read opened c step n p q s t (step_quiet m n r s (Ok read) list holds steps refl).list
    (step_frees m n r s (Ok read) steps) sought found

-- the end is taken where a turn comes to it
end_taken : (m n : kept.Expander) (r s : Reader) (step : PlacedStep Taken) → step ≡ Err Finished → TurnsTo m r step n s → StepsTaking m r (Err Finished) n s
end_taken m n r s step e (passes exit step1 m1 n1 r1 s1 steps is) = subst (λ (x : PlacedExit). StepsTaking m r (Err x) n s) (exit_same exit (sym is ∙ e)) steps
  where
    exit_same : (exit : PlacedExit) → ◌≡◌ {A = PlacedStep Taken} (Err exit) (Err Finished) → exit ≡ Finished
    exit_same exit e = cc
end_taken m n r s step e (gives read step1 m1 n1 r1 s1 steps none is) = cc
end_taken m p r s step e (object read opened step1 m1 n p1 r1 s1 steps some plain is at) = cc
end_taken m q r t step e (seeks read opened c step1 m1 n p q1 r1 s t1 steps some function sought found) = absurd (no_end c found)
  where
    no_end : (c : Sought) → Finds read opened c step p q → ⊥
    no_end (no_call next) h = let is = h.0 in cc
    no_end (refused fault) h = let is = h.0 in cc
    no_end (gathered paren g) h = let is = h.0 in cc

module _ (numbering : Numbering) (definitions : List Defined) where
  stands_here : (m : kept.Expander) (l : Listing) → IsOnLine numbering definitions m l → StandsListed true numbering definitions [] m l (expander_of m l)
  stands_here m l on = record {
    holds = refl;
    list = refl;
    reader = (refl, on.unhidden, on.line, on.defined, on.numbered);
    names = refl;
    goes = holds_step m.held on.holds;
  }

  -- where the code stands is where the definitions stand
  here : (n : kept.Expander) (k : Listing) (f : Expander Listed) → StandsListed true numbering definitions [] n k f → IsHeld n.held → IsSound n (of_list k)
      → (f ≡ expander_of n k) × IsOnLine numbering definitions n k
  here n k f stands holds sound =
      let listed = stands.reader in
      let e = expander_of n k in (
        ap (λ (o : Option Given). record f { held = o }) stands.holds
            ∙ ap (λ (es : List Entry). record { held = e.held; list = es; reader = f.reader; hidden = f.hidden }) stands.list
            ∙ ap (λ (x : Listed). record { held = e.held; list = e.list; reader = x; hidden = f.hidden }) listed.0
            ∙ ap (λ (ns : List Name). record { held = e.held; list = e.list; reader = e.reader; hidden = ns }) stands.names,
        record { sound = sound; holds = holds; line = listed.2; unhidden = listed.1; defined = listed.3; numbered = listed.4 },
      )

-- the items from here on are those from the beginning on, and come from the same calls
abbrev pub GoesOn : ℕ → kept.Expander → Listing → kept.Expander → Listing → Type 0
GoesOn levels m l n k = EmitsLater line_reading (answers_at levels) (expander_of m l) (expander_of n k)

module _ (levels : ℕ) (numbering : Numbering) (definitions : List Defined) (m n : kept.Expander) (l k : Listing) (on : IsOnLine numbering definitions m l) where
  leads : (step : PlacedStep Taken) → TurnsTo m (of_list l) step n (of_list k) → wants_taken step ≡ false
      → LeadsTo line_reading (IsListed true numbering definitions []) [] (list_simulates true numbering definitions []) (list_shows true numbering definitions
      []) (list_hides true numbering definitions []) (list_sees true numbering definitions []) (answers_at levels) step (expander_of m l) n (of_list k)
  leads step turns reported = listed_leads true numbering definitions [] (answers_at levels) m n l k step (expander_of m l)
      (stands_here numbering definitions m l on) turns reported

  -- a token
  pub token_read : (read : Read) → TurnsTo m (of_list l) (Ok (taken.Token read)) n (of_list k)
      → FindsItem levels (expander_of m l) (Ok (record { found = Some read; call = kept_call n.held (outermost_frame_call m.frames) n.frames })) (expander_of n k)
      × IsOnLine numbering definitions n k × IsWorkLess levels m l n k
  token_read read turns =
      let h = leads (Ok (taken.Token read)) turns refl in
      let less : IsLess levels m (of_list l) n (of_list k) = turn_falls levels m (of_list l) on.sound (Ok (taken.Token read)) n (of_list k) turns refl in
      let at = here numbering definitions n k h.0 h.2 (turn_holds m n (of_list l) (of_list k) (Ok (taken.Token read)) tt on.holds turns) less.sound in
      let call = kept_call n.held (outermost_frame_call m.frames) n.frames in (
        subst (λ (f : Expander Listed). FindsItem levels (expander_of m l) (Ok (record { found = Some read; call = call })) f) at.0
            (h.1, h.3 ∙ sym (calls_same n.held (expander_of m l).list h.0.list m.frames n.frames refl h.2.list)),
        at.1,
        less.falls,
      )

  -- a pause
  pub pause_read : TurnsTo m (of_list l) (Err Continue) n (of_list k) → GoesOn levels m l n k × IsOnLine numbering definitions n k × IsWorkLess levels m l n k
  pause_read turns =
      let h = leads (Err Continue) turns refl in
      let less : IsLess levels m (of_list l) n (of_list k) = turn_falls levels m (of_list l) on.sound (Err Continue) n (of_list k) turns refl in
      let at = here numbering definitions n k h.0 h.1 (turn_holds m n (of_list l) (of_list k) (Err Continue) tt on.holds turns) less.sound in
      (subst (λ (f : Expander Listed). EmitsLater line_reading (answers_at levels) (expander_of m l) f) at.0 h.2, at.1, less.falls)

  -- the end
  pub end_read : TurnsTo m (of_list l) (Err Finished) n (of_list k)
      → FindsItem levels (expander_of m l) (Ok (record { found = None; call = outermost_frame_call n.frames })) (expander_of n k)
      × ReadsOn levels numbering definitions m l n k
  end_read turns =
      let h = leads (Err Finished) turns refl in
      let sound : IsSound n (of_list k) = turn_falls levels m (of_list l) on.sound (Err Finished) n (of_list k) turns refl in
      let at = here numbering definitions n k h.0 h.2 (turn_holds m n (of_list l) (of_list k) (Err Finished) tt on.holds turns) sound in
      let r = of_list l in
      let level = frame_steps_level (most_bodies r) (most_open r) levels in
      let spent = step_spends (frame_of levels r) (most_open r) level (Err Finished) m n r (of_list k)
      (end_taken m n r (of_list k) (Err Finished) refl turns) refl in
      let less : work_of levels n (of_list k) ≤ work_of levels m r =
      no_more_work levels m n r (of_list k) spent.tightens (rw spent.spends (no_more (frame_of levels r) (most_open r) level (regions m r))) in (
        subst (λ (f : Expander Listed). FindsItem levels (expander_of m l) (Ok (record { found = None; call = outermost_frame_call n.frames })) f) at.0
            (h.1, h.4 ∙ ap outermost_call h.2.list ∙ outermost_flat n.frames),
        record { stands = at.1; least = less },
      )

  -- a fault, in the call of the outermost frame
  fault_found : (fault : PlacedFault) (call outermost : Option CallPlace) (f : Expander Listed) → call ≡ outermost
      → FindsItem levels (expander_of m l) (Err (fault_in call fault)) f → FindsItem levels (expander_of m l) (Err (fault_in outermost fault)) f
  fault_found fault call outermost f same = subst (λ (o : Option CallPlace). FindsItem levels (expander_of m l) (Err (fault_in o fault)) f) same

  pub fault_read : (fault : PlacedFault) → TurnsTo m (of_list l) (Err (Error fault)) n (of_list k) → is_out_of_memory fault.0 ≡ false
      → (f : Expander Listed) × FindsItem levels (expander_of m l) (Err (fault_in (outermost_frame_call n.frames) fault)) f
  fault_read fault turns reported =
      let h = leads (Err (Error fault)) turns reported in (
        h.0,
        fault_found fault (outermost_call h.0.list) (outermost_frame_call n.frames) h.0 (ap outermost_call h.2.list ∙ outermost_flat n.frames) (h.1, h.3),
      )

  module _ (c : MacroCall) (turns : TurnsTo m (of_list l) (Ok (taken.Call c)) n (of_list k)) where
    pending : IsPending levels m (of_list l) c n (of_list k)
    pending = turn_falls levels m (of_list l) on.sound (Ok (taken.Call c)) n (of_list k) turns refl

    led : LeadsTo line_reading (IsListed true numbering definitions []) [] (list_simulates true numbering definitions []) (list_shows true numbering definitions
        []) (list_hides true numbering definitions []) (list_sees true numbering definitions []) (answers_at levels) (Ok (taken.Call c)) (expander_of m l) n (of_list k)
    led = leads (Ok (taken.Call c)) turns refl

    site : site_of line_reading led.0 c.paren c.tokens ≡ site_at c numbering definitions (names_of n.frames ++ [])
    site = site_same true numbering definitions [] n k c led.0 led.1

    -- a call that has a fault
    pub call_fault_read : (fault : PlacedFault) → answers_at levels c.opened.definition (site_at c numbering definitions (names_of n.frames ++ [])) (Err fault)
        → (f : Expander Listed) × FindsItem levels (expander_of m l) (Err (fault_in (outermost_frame_call n.frames) fault)) f
    call_fault_read fault answers =
        let stood : StandsListed true numbering definitions [] n k led.0 = led.1 in (
          led.0,
          fault_found fault (outermost_call led.0.list) (outermost_frame_call n.frames) led.0 (ap outermost_call stood.list ∙ outermost_flat n.frames)
              (led.2 fault (subst (λ (x : Site). answers_at levels c.opened.definition x (Err fault)) (sym site) answers)),
        )

    -- a call whose frame opened
    pub call_read : (p : kept.Expander) → IsOpened levels numbering definitions (names_of n.frames ++ []) c n p → GoesOn levels m l p k × IsOnLine numbering definitions p k
        × IsWorkLess levels m l p k
    call_read p opened =
        let less : IsLess levels m (of_list l) p (of_list k) =
        opened_less true numbering definitions [] levels m n l k c p pending led.1.reader.3 opened in
        let f : Expander Listed = record led.0 { list = macro_before c.opened.name c.opened.definition c.call opened.arguments led.0.list } in
        let stood : StandsListed true numbering definitions [] n k led.0 = led.1 in
        let stands : StandsListed true numbering definitions [] p k f =
        subst (λ (q : kept.Expander). StandsListed true numbering definitions [] q k f) (sym opened.opens)
        (record {
          holds = stood.holds;
          list = ap (macro_before c.opened.name c.opened.definition c.call opened.arguments) stood.list;
          reader = stood.reader;
          names = stood.names;
          goes = stood.goes;
        }) in
        let at = here numbering definitions p k f stands (free_held p.held (ap (λ (q : kept.Expander). q.held) opened.opens ∙ pending.free)) less.sound in (
          subst (λ (e : Expander Listed). EmitsLater line_reading (answers_at levels) (expander_of m l) e) at.0
              (led.3 opened.arguments (subst (λ (x : Site). answers_at levels c.opened.definition x (Ok opened.arguments)) (sym site) opened.answers)),
          at.1,
          less.falls,
        )

  -- what is taken next
  pub next_read : (step : PlacedStep Read) → TakesNext m (of_list l) step n (of_list k) → wants_memory step ≡ false
      → Takes line_reading (expander_of m l) (outcome_of_step step) (expander_of n k) × ReadsOn levels numbering definitions m l n k
  next_read step next reported =
      let r = of_list l in
      let s = of_list k in
      let level = frame_steps_level (most_bodies r) (most_open r) levels in
      let h = next_simulates line_reading (IsListed true numbering definitions []) [] (list_simulates true numbering definitions []) (list_shows true numbering definitions
      []) (list_hides true numbering definitions []) m n r s step (expander_of m l) (stands_here numbering definitions m l on) next reported in
      let quiet = next_quiet m n r s step tt on.holds next reported in
      let sound : IsSound n s = next_sound None step m n r s next reported on.sound in
      let free : n.held ≡ None = (next_spends (frame_of levels r) (most_open r) level step m n r s next reported).free in
      let left = next_left (frame_of levels r) (most_open r) level step m n r s next reported in
      let holding : kept.Expander = record n { held = Some step } in
      let at = here numbering definitions holding k (record h.0 { held = Some (outcome_of_step step) }) h.2
      (quiet_held step quiet.quiet (next_no_pause m n r s step next)) sound in
      let same : h.0 ≡ expander_of n k =
      ap (λ (o : Option Given). record h.0 { held = o }) h.3
      ∙ ap (λ (e : Expander Listed). record e { held = None }) at.0
      ∙ ap (λ (o : Option (PlacedStep Read)). record (expander_of holding k) { held = option_map outcome_of_step o }) (sym free) in
      let stood : IsOnLine numbering definitions holding k = at.1 in (
        subst (λ (f : Expander Listed). Takes line_reading (expander_of m l) (outcome_of_step step) f) same h.1,
        record {
          stands = record {
            sound = sound;
            holds = free_held n.held free;
            line = stood.line;
            unhidden = stood.unhidden;
            defined = stood.defined;
            numbered = stood.numbered;
          };
          least = no_more_work levels m n r s left.tightens left.spends;
        },
      )
