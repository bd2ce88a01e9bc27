-- Taking and searching over frames is taking and searching over the splice list that they stand for, for every kind of
-- reader.
use Rattle.std.proofs.Common.{◌≡◌, ◌≢◌, ◌∙◌, ◌++◌, inl, inr, true, false, ℕ, Bool, List, [], ◌∷◌, refl, sym, ap, Option, Some, None}
use Rattle.std.specs.Prelude.{if◌then◌else◌, Result, Ok, Err, option_map, unwrap_or}
use Rattle.pp_lexer.specs.declared.token.PreprocessorError.TheVariants.{IntegerOverflow, UnexpectedEndOfInput}
use Rattle.pp_model.specs.declared.place.Place.{Place}
use Rattle.pp_model.specs.Places.{PlacedFault, place_of, unasked}
use Rattle.pp_model.specs.declared.read.Read.{Read}
use Rattle.pp_model.specs.Names.{Name, is_identifier, line_name}
use Rattle.pp_model.specs.Reading.{Reading, Expander, masked_names}
use Rattle.pp_model.specs.Taking as taking
use Rattle.pp_model.specs.Taking.{Takes, line_number}
use Rattle.pp_model.specs.Calls as calls
use Rattle.pp_model.specs.Calls.{Gathered, Gathers, before, paren_at}
use Rattle.pp_model.specs.SpliceList.{after_marks, open_names}
use Rattle.pp_model.specs.Painting.{painted_among}
use Rattle.pp_model.specs.declared.splice.Entry.{Entry}
use Rattle.pp_model.specs.declared.read.Taken.{Taken as Given}
use Rattle.pp_model.specs.declared.read.Taken.TheVariants as given
use Rattle.pp_macros.specs.Item.{PlacedStep, wants_memory}
use Rattle.pp_macros.specs.inner.Frames.{Frame, flat, names_of, outermost_frame_line}
use Rattle.pp_macros.specs.inner.Expander as kept
use Rattle.pp_macros.specs.inner.Expander.{is_pause, outcome_of_step, step_of_outcome, taken_as, StepsFetching, StepsTaking, held, moved, TakesNext, now, later, GathersNext, closed, inside, overfull, ended, failed}
use Rattle.pp_macros.specs.inner.Reader.{Reader, Reads, hidden_of, shown_line}
use Rattle.pp_macros.specs.inner.Reading.{painted_step}
use Rattle.pp_macros.specs.inner.Turns.{Moves, masks, taken_in}
use Rattle.pp_macros.specs.declared.step.PlacedExit.TheVariants.{Error, Continue, Finished}
use Rattle.pp_macros.proofs.open_frames.FlatLemmas.{StepsList, frame_steps, open_flat}
use Rattle.pp_macros.proofs.taking.PauseLemmas.{PausesTo, list_pauses}
use Rattle.pp_macros.proofs.taking.TakingLemmas.{taken_flat}
use Rattle.pp_macros.proofs.open_frames.ReportedLemmas.{taken_reported, painted_reported}
use Rattle.pp_lexer.specs.declared.token.Integer.{Integer}

module _ {R : Type 0} (I : Reading R) (StandsR : Reader → R → Type 0) (hidden : List Name) where
  -- what a step of a reader is to the reader that it stands for
  abbrev pub ReadsTo : PlacedStep Read → R → Reader → Type 0
  ReadsTo (Ok read) x s = (y : R) × I.Reads x (given.Token read) y × StandsR s y
  ReadsTo (Err Continue) x s = (y : R) × StandsR s y × ((o : Given) (z : R) → I.Reads y o z → I.Reads x o z)
  ReadsTo (Err Finished) x s = (y : R) × I.Reads x given.End y × StandsR s y
  ReadsTo (Err (Error fault)) x s = (y : R) × I.Reads x (given.Fault fault) y × StandsR s y

  -- what is held is held in the definitions' expander, and is no pause
  pub record StandsIn (m : kept.Expander) (r : Reader) (e : Expander R) : Type 0 where
    pub holds : e.held ≡ option_map outcome_of_step m.held
    pub list : e.list ≡ flat m.frames
    pub reader : StandsR r e.reader
    pub names : e.hidden ≡ hidden
    pub goes : m.held ≢ Some (Err Continue)

  -- the names that are open over frames are those that are open over their list
  pub masked_flat : (n : kept.Expander) (s : Reader) (f : Expander R) → StandsIn n s f → masked_names f ≡ names_of n.frames ++ hidden
  masked_flat n s f stands = ap (λ (es : List Entry). open_names es ++ f.hidden) stands.list
      ∙ ap (λ (hs : List Name). open_names (flat n.frames) ++ hs) stands.names ∙ ap (λ (ns : List Name). ns ++ hidden) (open_flat n.frames)

  -- what comes first is so for the expander
  abbrev pub FetchesTo : PlacedStep Read → Expander R → kept.Expander → Reader → Type 0
  FetchesTo (Ok read) e n s = (f : Expander R) × taking.Fetches I e (given.Token read) f × StandsIn n s f
  FetchesTo (Err Continue) e n s = (f : Expander R) × StandsIn n s f × PausesTo I e f
  FetchesTo (Err Finished) e n s = (f : Expander R) × taking.Fetches I e given.End f × StandsIn n s f
  FetchesTo (Err (Error fault)) e n s = (f : Expander R) × taking.Fetches I e (given.Fault fault) f × StandsIn n s f

  -- what one step of taking is to the expander
  abbrev pub StepsTo : PlacedStep Read → Expander R → kept.Expander → Reader → Type 0
  StepsTo (Ok read) e n s = (f : Expander R) × Takes I e (given.Token read) f × StandsIn n s f
  StepsTo (Err Continue) e n s = (f : Expander R) × StandsIn n s f × PausesTo I e f
  StepsTo (Err Finished) e n s = (f : Expander R) × Takes I e given.End f × StandsIn n s f
  StepsTo (Err (Error fault)) e n s = (f : Expander R) × Takes I e (given.Fault fault) f × StandsIn n s f

  module _ (simulates : (r s : Reader) (x : R) (step : PlacedStep Read) → StandsR r x → Reads r step s → wants_memory step ≡ false → ReadsTo step x s)
      (shows : (s : Reader) (y : R) (line : ℕ) → StandsR s y → I.shown_line y line ≡ shown_line s line)
      (hides : (s : Reader) (y : R) → StandsR s y → hidden_of s ≡ hidden) where
    -- where nothing is held, no pause is
    no_pause : {held : Option (PlacedStep Read)} → held ≡ None → held ≢ Some (Err Continue)
    no_pause free is = let bad : None ≡ Some (Err Continue) = sym free ∙ is in cc

    -- what is held
    let_go : (n : kept.Expander) (s : Reader) (e : Expander R) → e.list ≡ flat n.frames → StandsR s e.reader → e.hidden ≡ hidden → n.held ≡ None
        → StandsIn n s (record e { held = None })
    let_go n s e list reader names free =
        record { holds = sym (ap (option_map outcome_of_step) free); list = list; reader = reader; names = names; goes = no_pause free }

    held_steps : (step : PlacedStep Read) (n : kept.Expander) (s : Reader) (e : Expander R) → e.held ≡ Some (outcome_of_step step) → step ≢ Err Continue
        → StandsIn n s (record e { held = None }) → FetchesTo step e n s
    held_steps (Ok read) n s e is goes stands =
        (record e { held = None }, taking.held (given.Token read) e (record e { held = None }) is refl, stands)
    held_steps (Err Continue) n s e is goes stands = absurd (goes refl)
    held_steps (Err Finished) n s e is goes stands =
        (record e { held = None }, taking.held given.End e (record e { held = None }) is refl, stands)
    held_steps (Err (Error fault)) n s e is goes stands =
        (record e { held = None }, taking.held (given.Fault fault) e (record e { held = None }) is refl, stands)

    -- a token that is taken from the list or the reader, as `__LINE__` or as itself
    taken_steps : (o : Given) (e f : Expander R) (n : kept.Expander) (s : Reader) → taking.Fetches I e o f → StandsIn n s f → (o ≡ given.End → ⊥)
        → FetchesTo (step_of_outcome o) e n s
    taken_steps (given.Token read) e f n s takes stands goes = (f, takes, stands)
    taken_steps (given.Fault fault) e f n s takes stands goes = (f, takes, stands)
    taken_steps given.End e f n s takes stands goes = absurd (goes refl)

    -- a taken token is never the end
    taken_no_end : (frames : List Frame) (r : Reader) (read : Read) → taken_in frames r read ≡ given.End → ⊥
    taken_no_end frames r read = go (is_identifier line_name read.token.value) (shown_line r (unwrap_or (outermost_frame_line frames) read.token.location.line))
      where
        go : (b : Bool) (o : Option Integer) → (if b then line_number (place_of read) o else given.Token read) ≡ given.End → ⊥
        go true (Some n) e = cc
        go true None e = cc
        go false o e = cc

    list_steps : (m n : kept.Expander) (r : Reader) (move : PlacedStep Read) (e : Expander R) → StandsIn m r e → m.held ≡ None → n.held ≡ None
        → StepsList move (flat m.frames) (flat n.frames) → FetchesTo (taken_as move n.frames r) e n r
    list_steps m n r (Ok read) e stands free freed steps =
        let f : Expander R = record e { list = flat n.frames } in
        let none : e.held ≡ None = stands.holds ∙ ap (option_map outcome_of_step) free in
        let becomes = taken_flat (I.shown_line e.reader) n.frames r read (λ line. shows r e.reader line stands.reader) in
        taken_steps (taken_in n.frames r read) e f n r
        (taking.listed (taken_in n.frames r read) read (flat n.frames) e f none (ap after_marks stands.list ∙ steps) (sym becomes) refl)
        (record {
          holds = none ∙ sym (ap (option_map outcome_of_step) freed);
          list = refl;
          reader = stands.reader;
          names = stands.names;
          goes = no_pause freed;
        }) (taken_no_end n.frames r read)
    list_steps m n r (Err Continue) e stands free freed steps =
        let none : e.held ≡ None = stands.holds ∙ ap (option_map outcome_of_step) free in (
          record e { list = flat n.frames },
          record {
            holds = none ∙ sym (ap (option_map outcome_of_step) freed);
            list = refl;
            reader = stands.reader;
            names = stands.names;
            goes = no_pause freed;
          },
          list_pauses I e (flat n.frames) none (ap after_marks stands.list ∙ steps),
        )
    list_steps m n r (Err Finished) e stands free freed steps = absurd steps
    list_steps m n r (Err (Error fault)) e stands free freed steps = absurd steps

    -- the reader may pause where the list holds no token
    reader_fetches : (e : Expander R) (y : R) → e.held ≡ None → after_marks e.list ≡ []
        → ((o : Given) (z : R) → I.Reads y o z → I.Reads e.reader o z) → (o : Given) (h : Expander R)
        → taking.Fetches I (record e { list = []; reader = y }) o h → taking.Fetches I e o h
    reader_fetches e y free empty on o h (taking.held o1 f1 h1 is at) = let bad : Some o ≡ None = sym is ∙ free in cc
    reader_fetches e y free empty on o h (taking.listed o1 read rest f1 h1 is front becomes at) = cc
    reader_fetches e y free empty on o h (taking.read x o1 z f1 h1 is front reads becomes at) = taking.read x o z e h free empty (on x z reads) becomes at

    reader_pause : (e : Expander R) (y : R) → e.held ≡ None → after_marks e.list ≡ []
        → ((o : Given) (z : R) → I.Reads y o z → I.Reads e.reader o z) → PausesTo I e (record e { list = []; reader = y })
    reader_pause e y free empty on o h takes = record {
      first = takes.first;
      fetches = reader_fetches e y free empty on takes.first h takes.fetches;
      paints = takes.paints;
    }

    read_steps : (m n : kept.Expander) (r s : Reader) (move : PlacedStep Read) (e : Expander R) → StandsIn m r e → m.held ≡ None → n.held ≡ None → m.frames ≡ []
        → n.frames ≡ [] → ReadsTo move e.reader s → FetchesTo (taken_as move n.frames s) e n s
    read_steps m n r s move e stands free freed start end = go move
      where
        none : e.held ≡ None
        none = stands.holds ∙ ap (option_map outcome_of_step) free

        empty : after_marks e.list ≡ []
        empty = ap after_marks stands.list ∙ ap (λ fs. after_marks (flat fs)) start

        onto : (y : R) → StandsR s y → StandsIn n s (record e { list = []; reader = y })
        onto y after = record {
          holds = none ∙ sym (ap (option_map outcome_of_step) freed);
          list = sym (ap flat end);
          reader = after;
          names = stands.names;
          goes = no_pause freed;
        }

        go : (move : PlacedStep Read) → ReadsTo move e.reader s → FetchesTo (taken_as move n.frames s) e n s
        go (Ok read) (y, reads, after) =
            let becomes = taken_flat (I.shown_line y) n.frames s read (λ line. shows s y line after) in
            let same : taken_in n.frames s read ≡ taking.shown_token (I.shown_line y) [] read = sym becomes
            ∙ ap (λ fs. taking.shown_token (I.shown_line y) (flat fs) read) end in
            taken_steps (taken_in n.frames s read) e (record e { list = []; reader = y }) n s
            (taking.read (given.Token read) (taken_in n.frames s read) y e (record e { list = []; reader = y }) none empty reads same refl)
            (onto y after) (taken_no_end n.frames s read)
        go (Err Continue) (y, after, on) = (record e { list = []; reader = y }, onto y after, reader_pause e y none empty on)
        go (Err Finished) (y, reads, after) = (
          record e { list = []; reader = y },
          taking.read given.End given.End y e (record e { list = []; reader = y }) none empty reads refl refl,
          onto y after,
        )
        go (Err (Error fault)) (y, reads, after) = (
          record e { list = []; reader = y },
          taking.read (given.Fault fault) (given.Fault fault) y e (record e { list = []; reader = y }) none empty reads refl refl,
          onto y after,
        )

    moved_simulates : (frames : List Frame) (m n : kept.Expander) (r s : Reader) (move : PlacedStep Read) (e : Expander R) → StandsIn m r e → m.held ≡ None
        → n.held ≡ None → m.frames ≡ frames → Moves frames r move n.frames s → wants_memory move ≡ false
        → FetchesTo (taken_as move n.frames s) e n s
    moved_simulates [] m n r s move e stands free freed start moves reported =
        read_steps m n r s move e stands free freed start moves.0 (simulates r s e.reader move stands.reader moves.1 reported)
    moved_simulates (f ∷ fs) m n r s move e stands free freed start (same, inr refused) reported =
        absurd (let bad : true ≡ false = rw refused at reported in cc)
    moved_simulates (f ∷ fs) m n r s move e stands free freed start (same, inl (is, becomes)) reported =
        let steps : StepsList move (flat m.frames) (flat n.frames) = rw (start, is, becomes) (frame_steps f fs) in
        rw same (list_steps m n r move e stands free freed steps)

    fetch_simulates : (m n : kept.Expander) (r s : Reader) (step : PlacedStep Read) (e : Expander R) → StandsIn m r e → StepsFetching m r step n s
        → wants_memory step ≡ false → FetchesTo step e n s
    fetch_simulates m n r s step e stands (held step1 m1 n1 r1 s1 is at same) reported =
        let e_holds : e.held ≡ Some (outcome_of_step step) = stands.holds ∙ ap (option_map outcome_of_step) is in
        let frames : n.frames ≡ m.frames = ap (λ (k : kept.Expander). k.frames) at in
        held_steps step n s e e_holds (λ pause. stands.goes (is ∙ ap Some pause))
        (let_go n s e (stands.list ∙ sym (ap flat frames)) (rw same stands.reader) stands.names (ap (λ (k : kept.Expander). k.held) at))
    fetch_simulates m n r s step e stands (moved move step1 m1 n1 r1 s1 free moves is freed) reported =
        rw is (moved_simulates m.frames m n r s move e stands free freed refl moves (taken_reported move n.frames s (rw is at reported)))

    masked_same : (n : kept.Expander) (s : Reader) (f : Expander R) → StandsIn n s f → masked_names f ≡ masks n.frames s
    masked_same n s f stands =
        masked_flat n s f stands ∙ ap (λ (hs : List Name). names_of n.frames ++ hs) (sym (hides s f.reader stands.reader))

    -- what comes first is painted over frames as it is over their list
    painted_to : (first : PlacedStep Read) (e : Expander R) (n : kept.Expander) (s : Reader) → FetchesTo first e n s
        → StepsTo (painted_step (masks n.frames s) first) e n s
    painted_to (Ok read) e n s (f, fetches, stands) = (
      f,
      record {
        first = given.Token read;
        fetches = fetches;
        paints = ap (λ (names : List Name). given.Token (painted_among names read)) (sym (masked_same n s f stands));
      },
      stands,
    )
    painted_to (Err Continue) e n s h = h
    painted_to (Err Finished) e n s (f, fetches, stands) = (f, record { first = given.End; fetches = fetches; paints = refl }, stands)
    painted_to (Err (Error fault)) e n s (f, fetches, stands) = (f, record { first = given.Fault fault; fetches = fetches; paints = refl }, stands)

    fetch_frees : (m n : kept.Expander) (r s : Reader) (step : PlacedStep Read) → StepsFetching m r step n s → n.held ≡ None
    fetch_frees m n r s step (held step1 m1 n1 r1 s1 is at same) = ap (λ (k : kept.Expander). k.held) at
    fetch_frees m n r s step (moved move step1 m1 n1 r1 s1 free moves is freed) = freed

    pub step_frees : (m n : kept.Expander) (r s : Reader) (step : PlacedStep Read) → StepsTaking m r step n s → n.held ≡ None
    step_frees m n r s step steps = fetch_frees m n r s steps.first steps.fetches

    pub step_simulates : (m n : kept.Expander) (r s : Reader) (step : PlacedStep Read) (e : Expander R) → StandsIn m r e → StepsTaking m r step n s
        → wants_memory step ≡ false → StepsTo step e n s
    step_simulates m n r s step e stands steps reported =
        rw steps.paints (painted_to steps.first e n s (fetch_simulates m n r s steps.first e stands steps.fetches
        (painted_reported (masks n.frames s) steps.first (rw steps.paints at reported))))

    -- what is taken next is taken by the definitions
    abbrev pub NextTo : PlacedStep Read → Expander R → kept.Expander → Reader → Type 0
    NextTo step e n s = (f : Expander R) × Takes I e (outcome_of_step step) f
        × StandsIn (record n { held = Some step }) s (record f { held = Some (outcome_of_step step) }) × (f.held ≡ None)

    -- the step itself may be held
    held_back : (step : PlacedStep Read) (e : Expander R) (n : kept.Expander) (s : Reader) → is_pause step ≡ false → n.held ≡ None → StepsTo step e n s → NextTo step e n s
    held_back step e n s goes free = go step goes
      where
        pauses : Option (PlacedStep Read) → Bool
        pauses None = false
        pauses (Some step) = is_pause step

        keeps : (f : Expander R) (step : PlacedStep Read) → is_pause step ≡ false → StandsIn n s f
            → StandsIn (record n { held = Some step }) s (record f { held = Some (outcome_of_step step) })
        keeps f step goes stands = record {
          holds = refl;
          list = stands.list;
          reader = stands.reader;
          names = stands.names;
          goes = λ is. let bad : true ≡ false = sym (ap pauses is) ∙ goes in cc;
        }

        none : (f : Expander R) → StandsIn n s f → f.held ≡ None
        none f stands = stands.holds ∙ ap (option_map outcome_of_step) free

        go : (step : PlacedStep Read) → is_pause step ≡ false → StepsTo step e n s → NextTo step e n s
        go (Ok read) goes (f, takes, stands) = (f, takes, keeps f (Ok read) goes stands, none f stands)
        go (Err Continue) goes h = cc
        go (Err Finished) goes (f, takes, stands) = (f, takes, keeps f (Err Finished) goes stands, none f stands)
        go (Err (Error fault)) goes (f, takes, stands) = (f, takes, keeps f (Err (Error fault)) goes stands, none f stands)

    pub next_simulates : (m n : kept.Expander) (r s : Reader) (step : PlacedStep Read) (e : Expander R) → StandsIn m r e → TakesNext m r step n s
        → wants_memory step ≡ false → NextTo step e n s
    next_simulates m n r s step e stands (now step1 m1 n1 r1 s1 steps goes) reported =
        held_back step e n s goes (step_frees m n r s step steps) (step_simulates m n r s step e stands steps reported)
    next_simulates m n r s step e stands (later step1 m1 between n1 r1 s1 t1 steps next) reported =
        let first = step_simulates m between r s1 (Err Continue) e stands steps refl in
        let freed = next_simulates between n s1 s step first.0 first.1 next reported in
        (freed.0, first.2 (outcome_of_step step) freed.0 freed.1, freed.2, freed.3)

    next_frees : (m n : kept.Expander) (r s : Reader) (step : PlacedStep Read) → TakesNext m r step n s → n.held ≡ None
    next_frees m n r s step (now step1 m1 n1 r1 s1 steps goes) = step_frees m n r s step steps
    next_frees m n r s step (later step1 m1 between n1 r1 s1 t1 steps next) = next_frees between n s1 s step next

    -- what stands with what is taken next held stands without it
    next_stands : (m n : kept.Expander) (r s : Reader) (step : PlacedStep Read) (e : Expander R) → TakesNext m r step n s → (h : NextTo step e n s) → StandsIn n s h.0
    next_stands m n r s step e next h =
        let free : n.held ≡ None = next_frees m n r s step next in
        record {
          holds = h.3 ∙ sym (ap (option_map outcome_of_step) free);
          list = h.2.list;
          reader = h.2.reader;
          names = h.2.names;
          goes = no_pause free;
        }

    -- after a token the expander stands for the state after it
    pub token_stands : (read : Read) (m n : kept.Expander) (r s : Reader) (e : Expander R) → StandsIn m r e → TakesNext m r (Ok read) n s
        → (f : Expander R) × Takes I e (given.Token read) f × StandsIn n s f
    token_stands read m n r s e stands next =
        let h = next_simulates m n r s (Ok read) e stands next refl in
        (h.0, h.1, next_stands m n r s (Ok read) e next h)

    -- the search for the end of a call is that of the definitions
    abbrev pub GathersTo : ℕ → Place → Expander R → Result Gathered PlacedFault → kept.Expander → Reader → Type 0
    GathersTo k last e g n s = (f : Expander R) × Gathers I k last e g f × StandsIn n s f

    pub gather_simulates : (k : ℕ) (last : Place) (m n : kept.Expander) (r s : Reader) (g : Result Gathered PlacedFault) (e : Expander R) → StandsIn m r e
        → GathersNext k last m r g n s → GathersTo k last e g n s
    gather_simulates k last m n r s g e stands (closed k1 last1 read m1 n1 r1 s1 g1 next out is) =
        let h = token_stands read m n r s e stands next in
        rw is (h.0, calls.closed k last read e h.0 (Ok (record { tokens = []; closing = read.token.location })) h.1 out refl, h.2)
    gather_simulates k last m n r s g e stands (inside k1 l last1 read m1 between n1 r1 s1 t1 rest g1 next in_call more is) =
        let h = token_stands read m between r s1 e stands next in
        let (f, gathers, stood) = gather_simulates l (place_of read) between n s1 s rest h.0 h.2 more in
        rw is (f, calls.inside k l last read e h.0 f rest (before read rest) h.1 in_call gathers refl, stood)
    gather_simulates k last m n r s g e stands (overfull k1 last1 read m1 n1 r1 s1 g1 next out is) =
        let h = token_stands read m n r s e stands next in
        rw is (h.0, calls.overfull k last read e h.0 (Err (IntegerOverflow, place_of read)) h.1 out refl, h.2)
    gather_simulates k last m n r s g e stands (ended k1 last1 m1 n1 r1 s1 g1 next is) =
        let h = next_simulates m n r s (Err Finished) e stands next refl in
        rw is (h.0, calls.ended k last e h.0 (Err (UnexpectedEndOfInput, last)) h.1 refl, next_stands m n r s (Err Finished) e next h)
    gather_simulates k last m n r s g e stands (failed k1 last1 fault m1 n1 r1 s1 g1 next reported is) =
        let h = next_simulates m n r s (Err (Error fault)) e stands next reported in
        rw is (h.0, calls.failed k last fault e h.0 (Err (unasked fault)) h.1 refl, next_stands m n r s (Err (Error fault)) e next h)
