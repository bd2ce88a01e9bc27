-- Taking from a reader whose memory didn't run out leaves it so, and the end comes if nothing is left.
use Rattle.std.proofs.Common.{◌≡◌, ◌∙◌, inl, inr, ℕ, Bool, true, false, if◌then◌else◌, List, [], ◌∷◌, refl, ap, sym, subst, Option, Some, None, Ok, Err}
use Rattle.std.specs.Prelude.{Result, unwrap_or}
use Rattle.pp_model.specs.declared.place.Place.{Place}
use Rattle.pp_model.specs.Places.{PlacedFault, place_of}
use Rattle.pp_model.specs.Calls.{Gathered}
use Rattle.pp_model.specs.Names.{Name, is_identifier, line_name}
use Rattle.pp_model.specs.Taking.{line_number}
use Rattle.pp_model.specs.declared.read.Read.{Read}
use Rattle.pp_model.specs.declared.read.Taken.TheVariants as given
use Rattle.pp_macros.specs.inner.Defined.{Macro}
use Rattle.pp_macros.specs.inner.CallTurns.{Sought, no_call, refused, gathered, sought_by, Seeks, alone, called, Finds, TurnsTo, passes, gives, object, seeks, paren_of, TakesSomething}
use Rattle.pp_rs.specs.inner.Fit.{NothingIn, IsReady, EndIsLast}
use Rattle.pp_macros.specs.inner.Frames.{Frame, Advance, advance, outermost_frame_line}
use Rattle.pp_macros.specs.Item.{PlacedStep, wants_memory}
use Rattle.pp_macros.specs.inner.Expander.{Expander, StepsFetching, StepsTaking, held, moved, TakesNext, now, later, GathersNext, closed, inside, overfull, ended, failed, step_of_outcome, taken_as}
use Rattle.pp_macros.specs.inner.Reader.{Reader, of_source, of_list, Reads, shown_line}
use Rattle.pp_macros.specs.inner.Reading.{painted_step}
use Rattle.pp_macros.specs.inner.Turns.{as_pause, frame_move, masks, Moves}
use Rattle.pp_macros.specs.declared.calls.Taken.{Taken}
use Rattle.pp_macros.specs.declared.step.PlacedExit.{PlacedExit}
use Rattle.pp_macros.specs.declared.step.PlacedExit.TheVariants.{Error, Continue, Finished}
use Rattle.pp_macros.proofs.open_frames.ReportedLemmas.{wants_taken, exit_reported, not_refused, painted_reported, taken_reported}
use Rattle.pp_rs.proofs.source.EndLemmas.{source_end}
use Rattle.pp_rs.proofs.source.RulesLemmas.{reads_unspent}
use Rattle.pp_lexer.specs.declared.token.Integer.{Integer}

reads_ready : (r s : Reader) (step : PlacedStep Read) → IsReady r → Reads r step s → wants_memory step ≡ false → IsReady s
reads_ready (of_source old) (of_source new) step ready h reported = reads_unspent old new step ready h reported
reads_ready (of_list old) (of_list new) step ready h reported = tt
reads_ready (of_source old) (of_list new) step ready h reported = absurd h
reads_ready (of_list old) (of_source new) step ready h reported = absurd h

reads_end : (r s : Reader) → IsReady r → Reads r (Err Finished) s → NothingIn s
reads_end (of_source old) (of_source new) ready h = source_end old new ready h
reads_end (of_list old) (of_list new) ready h = tt
reads_end (of_source old) (of_list new) ready h = absurd h
reads_end (of_list old) (of_source new) ready h = absurd h

frames_pause : (fs : List Frame) (o : Option Advance) → (frame_move fs o).gives ≡ Err Finished → ⊥
frames_pause fs (Some a) e = no_end a.gives e
  where
    no_end : (t : Option Read) → as_pause t ≡ Err Finished → ⊥
    no_end (Some read) e = cc
    no_end None e = cc
frames_pause fs None e = cc

moves_ready : (fs gs : List Frame) (r s : Reader) (move : PlacedStep Read) → IsReady r → Moves fs r move gs s → wants_memory move ≡ false → IsReady s
moves_ready [] gs r s move ready h reported = reads_ready r s move ready h.1 reported
moves_ready (f ∷ fs) gs r s move ready h reported = subst IsReady (sym h.0) ready

moves_end : (fs gs : List Frame) (r s : Reader) → IsReady r → Moves fs r (Err Finished) gs s → (gs ≡ []) × NothingIn s
moves_end [] gs r s ready h = (h.0, reads_end r s ready h.1)
moves_end (f ∷ fs) gs r s ready (stays, inl h) = absurd (frames_pause fs (advance f) (sym h.0))
moves_end (f ∷ fs) gs r s ready (stays, inr h) = cc

-- taking and painting make an end of no token
taken_end : (move : PlacedStep Read) (fs : List Frame) (r : Reader) → taken_as move fs r ≡ Err Finished → move ≡ Err Finished
taken_end (Ok read) fs r e = absurd (go (is_identifier line_name read.token.value)
    (shown_line r (unwrap_or (outermost_frame_line fs) read.token.location.line)) e)
  where
    go : (b : Bool) (o : Option Integer) → step_of_outcome (if b then line_number (place_of read) o else given.Token read) ≡ Err Finished → ⊥
    go true (Some n) e = cc
    go true None e = cc
    go false o e = cc
taken_end (Err exit) fs r e = e

painted_end : (names : List Name) (first : PlacedStep Read) → painted_step names first ≡ Err Finished → first ≡ Err Finished
painted_end names (Ok read) e = cc
painted_end names (Err exit) e = e

-- nothing is held after what was taken
fetch_free : (m n : Expander) (r s : Reader) (step : PlacedStep Read) → StepsFetching m r step n s → n.held ≡ None
fetch_free m n r s step (held step1 m1 n1 r1 s1 is at same) = rw at refl
fetch_free m n r s step (moved move step1 m1 n1 r1 s1 free moves is none) = none

pub step_free : (m n : Expander) (r s : Reader) (step : PlacedStep Read) → StepsTaking m r step n s → n.held ≡ None
step_free m n r s step steps = fetch_free m n r s steps.first steps.fetches

pub next_free : (m n : Expander) (r s : Reader) (step : PlacedStep Read) → TakesNext m r step n s → n.held ≡ None
next_free m n r s step (now step1 m1 n1 r1 s1 steps goes) = step_free m n r s step steps
next_free m n r s step (later step1 m1 between n1 r1 s1 t1 steps next) = next_free between n s1 s step next

pub gather_free : (k : ℕ) (last : Place) (m n : Expander) (r s : Reader) (g : Result Gathered PlacedFault) → GathersNext k last m r g n s → n.held ≡ None
gather_free k last m n r s g (closed k1 last1 read m1 n1 r1 s1 g1 next out is) = next_free m n r s (Ok read) next
gather_free k last m n r s g (inside k1 l last1 read m1 between n1 r1 s1 t1 rest g1 next in_call more is) =
    gather_free l (place_of read) between n s1 s rest more
gather_free k last m n r s g (overfull k1 last1 read m1 n1 r1 s1 g1 next out is) = next_free m n r s (Ok read) next
gather_free k last m n r s g (ended k1 last1 m1 n1 r1 s1 g1 next is) = next_free m n r s (Err Finished) next
gather_free k last m n r s g (failed k1 last1 fault m1 n1 r1 s1 g1 next reported is) = next_free m n r s (Err (Error fault)) next

-- the reader stays ready
fetch_ready : (m n : Expander) (r s : Reader) (step : PlacedStep Read) → IsReady r → StepsFetching m r step n s → wants_memory step ≡ false → IsReady s
fetch_ready m n r s step ready (held step1 m1 n1 r1 s1 is at same) reported = subst IsReady (sym same) ready
fetch_ready m n r s step ready (moved move step1 m1 n1 r1 s1 free moves is none) reported =
    moves_ready m.frames n.frames r s move ready moves (taken_reported move n.frames s (rw is at reported))

step_ready : (m n : Expander) (r s : Reader) (step : PlacedStep Read) → IsReady r → StepsTaking m r step n s → wants_memory step ≡ false → IsReady s
step_ready m n r s step ready steps reported =
    fetch_ready m n r s steps.first ready steps.fetches (painted_reported (masks n.frames s) steps.first (rw steps.paints at reported))

next_ready : (m n : Expander) (r s : Reader) (step : PlacedStep Read) → IsReady r → TakesNext m r step n s → wants_memory step ≡ false → IsReady s
next_ready m n r s step ready (now step1 m1 n1 r1 s1 steps goes) reported = step_ready m n r s step ready steps reported
next_ready m n r s step ready (later step1 m1 between n1 r1 s1 t1 steps next) reported =
    next_ready between n s1 s step (step_ready m between r s1 (Err Continue) ready steps refl) next reported

gather_ready : (k : ℕ) (last : Place) (m n : Expander) (r s : Reader) (g : Result Gathered PlacedFault) → IsReady r → GathersNext k last m r g n s → IsReady s
gather_ready k last m n r s g ready (closed k1 last1 read m1 n1 r1 s1 g1 next out is) = next_ready m n r s (Ok read) ready next refl
gather_ready k last m n r s g ready (inside k1 l last1 read m1 between n1 r1 s1 t1 rest g1 next in_call more is) =
    gather_ready l (place_of read) between n s1 s rest (next_ready m between r s1 (Ok read) ready next refl) more
gather_ready k last m n r s g ready (overfull k1 last1 read m1 n1 r1 s1 g1 next out is) = next_ready m n r s (Ok read) ready next refl
gather_ready k last m n r s g ready (ended k1 last1 m1 n1 r1 s1 g1 next is) = next_ready m n r s (Err Finished) ready next refl
gather_ready k last m n r s g ready (failed k1 last1 fault m1 n1 r1 s1 g1 next reported is) = next_ready m n r s (Err (Error fault)) ready next reported

-- nothing is left where the end is taken
fetch_end : (m n : Expander) (r s : Reader) (step : PlacedStep Read) → step ≡ Err Finished → IsReady r → EndIsLast m.held m.frames r
    → StepsFetching m r step n s → (n.frames ≡ []) × NothingIn s
fetch_end m n r s step e ready last (held step1 m1 n1 r1 s1 is at same) =
    let all : (m.frames ≡ []) × NothingIn r = subst (λ (o : Option (PlacedStep Read)). EndIsLast o m.frames r) (is ∙ ap Some e) last in
    (ap (λ (x : Expander). x.frames) at ∙ all.0, subst NothingIn (sym same) all.1)
fetch_end m n r s step e ready last (moved move step1 m1 n1 r1 s1 free moves is none) =
    moves_end m.frames n.frames r s ready (subst (λ (x : PlacedStep Read). Moves m.frames r x n.frames s) (taken_end move n.frames s (sym is ∙ e)) moves)

step_end : (m n : Expander) (r s : Reader) (step : PlacedStep Read) → step ≡ Err Finished → IsReady r → EndIsLast m.held m.frames r
    → StepsTaking m r step n s → (n.frames ≡ []) × NothingIn s
step_end m n r s step e ready last steps =
    fetch_end m n r s steps.first (painted_end (masks n.frames s) steps.first (sym steps.paints ∙ e)) ready last steps.fetches

free_last : (o : Option (PlacedStep Read)) (fs : List Frame) (r : Reader) → o ≡ None → EndIsLast o fs r
free_last o fs r e = rw e tt

next_end : (m n : Expander) (r s : Reader) (step : PlacedStep Read) → step ≡ Err Finished → IsReady r → EndIsLast m.held m.frames r
    → TakesNext m r step n s → (n.frames ≡ []) × NothingIn s
next_end m n r s step e ready last (now step1 m1 n1 r1 s1 steps goes) = step_end m n r s step e ready last steps
next_end m n r s step e ready last (later step1 m1 between n1 r1 s1 t1 steps next) =
    next_end between n s1 s step e (step_ready m between r s1 (Err Continue) ready steps refl)
    (free_last between.held between.frames s1 (step_free m between r s1 (Err Continue) steps)) next

paren_reported : (next : PlacedStep Read) (paren : Place) → paren_of next ≡ Some paren → wants_memory next ≡ false
paren_reported (Ok read) paren e = refl
paren_reported (Err exit) paren e = cc

seeks_ready : (m n : Expander) (r s : Reader) (c : Sought) → IsReady r → Seeks m r c n s → IsReady s
seeks_ready m n r s c ready (alone next m1 n1 r1 s1 c1 taken none reported is) = next_ready m n r s next ready taken (not_refused next reported)
seeks_ready m n r s c ready (called next paren m1 between n1 r1 s1 t1 g c1 taken at gathers is) =
    gather_ready 0 paren between n s1 s g (next_ready m between r s1 next ready taken (paren_reported next paren at)) gathers

-- what is held after a search is what was found, or nothing
held_last : (next : PlacedStep Read) (m n : Expander) (r s : Reader) → IsReady r → m.held ≡ None → TakesNext m r next n s → EndIsLast (Some next) n.frames s
held_last (Err Finished) m n r s ready free next = next_end m n r s (Err Finished) refl ready (free_last m.held m.frames r free) next
held_last _ m n r s ready free next = tt

finds_last : (read : Read) (opened : Macro) (c : Sought) (step : PlacedStep Taken) (m n p : Expander) (r s : Reader) → IsReady r
    → m.held ≡ None → Seeks m r c n s → Finds read opened c step n p → EndIsLast p.held p.frames s
finds_last read opened c step m n p r s ready free (alone next m1 n1 r1 s1 c1 taken none reported is) found =
    let found' : Finds read opened (no_call next) step n p = subst (λ (x : Sought). Finds read opened x step n p) is found in
    rw found'.1 (held_last next m n r s ready free taken)
finds_last read opened c step m n p r s ready free (called next paren m1 between n1 r1 s1 t1 g c1 taken at gathers is) found =
    go g (gather_free 0 paren between n s1 s g gathers) (subst (λ (x : Sought). Finds read opened x step n p) is found)
  where
    go : (g : Result Gathered PlacedFault) → n.held ≡ None → Finds read opened (sought_by paren g) step n p → EndIsLast p.held p.frames s
    go (Ok g) free f = rw f.1 (free_last n.held n.frames s free)
    go (Err fault) free f = rw f.1 (free_last n.held n.frames s free)

-- a turn
pub turn_ready : (m n : Expander) (r s : Reader) (step : PlacedStep Taken) → IsReady r → TurnsTo m r step n s → wants_taken step ≡ false → IsReady s
turn_ready m n r s step ready (passes exit step1 m1 n1 r1 s1 steps is) reported =
    step_ready m n r s (Err exit) ready steps (exit_reported exit (rw is at reported))
turn_ready m n r s step ready (gives read step1 m1 n1 r1 s1 steps none is) reported = step_ready m n r s (Ok read) ready steps refl
turn_ready m p r s step ready (object read opened step1 m1 n p1 r1 s1 steps some plain is at) reported =
    step_ready m n r s (Ok read) ready steps refl
turn_ready m q r t step ready (seeks read opened c step1 m1 n p q1 r1 s t1 steps some function sought found) reported =
    seeks_ready n p s t c (step_ready m n r s (Ok read) ready steps refl) sought

pub turn_last : (m n : Expander) (r s : Reader) (step : PlacedStep Taken) → IsReady r → TurnsTo m r step n s → EndIsLast n.held n.frames s
turn_last m n r s step ready (passes exit step1 m1 n1 r1 s1 steps is) = free_last n.held n.frames s (step_free m n r s (Err exit) steps)
turn_last m n r s step ready (gives read step1 m1 n1 r1 s1 steps none is) = free_last n.held n.frames s (step_free m n r s (Ok read) steps)
turn_last m p r s step ready (object read opened step1 m1 n p1 r1 s1 steps some plain is at) =
    free_last p.held p.frames s (ap (λ (x : Expander). x.held) at ∙ step_free m n r s (Ok read) steps)
turn_last m q r t step ready (seeks read opened c step1 m1 n p q1 r1 s t1 steps some function sought found) =
    finds_last read opened c step n p q s t (step_ready m n r s (Ok read) ready steps refl) (step_free m n r s (Ok read) steps) sought found

no_end : (read : Read) (opened : Macro) (c : Sought) (step : PlacedStep Taken) (n p : Expander)
    → Finds read opened c step n p → step ≡ Err Finished → ⊥
no_end read opened (no_call next) step n p found e = let k = found.0 in cc
no_end read opened (refused fault) step n p found e = let k = found.0 in cc
no_end read opened (gathered paren g) step n p found e = let k = found.0 in cc

pub turn_end : (m n : Expander) (r s : Reader) (step : PlacedStep Taken) → step ≡ Err Finished → IsReady r → EndIsLast m.held m.frames r
    → TurnsTo m r step n s → (n.held ≡ None) × (n.frames ≡ []) × NothingIn s
turn_end m n r s step e ready last (passes exit step1 m1 n1 r1 s1 steps is) =
    let same : ◌≡◌ {A = PlacedStep Read} (Err exit) (Err Finished) = ap (λ (x : PlacedExit). Err x) (exit_same exit (sym is ∙ e)) in
    let h = step_end m n r s (Err exit) same ready last steps in
    (step_free m n r s (Err exit) steps, h.0, h.1)
  where
    exit_same : (exit : PlacedExit) → ◌≡◌ {A = PlacedStep Taken} (Err exit) (Err Finished) → exit ≡ Finished
    exit_same exit e = cc
turn_end m n r s step e ready last (gives read step1 m1 n1 r1 s1 steps none is) = cc
turn_end m p r s step e ready last (object read opened step1 m1 n p1 r1 s1 steps some plain is at) = cc
turn_end m q r t step e ready last (seeks read opened c step1 m1 n p q1 r1 s t1 steps some function sought found) =
    absurd (no_end read opened c step p q found e)

-- but for the end, something is taken
pub turn_some : (m n : Expander) (r s : Reader) (step : PlacedStep Taken) → TurnsTo m r step n s → (step ≡ Err Finished → ⊥) → TakesSomething m r
turn_some m n r s step (passes Continue step1 m1 n1 r1 s1 steps is) goes = record { step = Err Continue; after = n; reader = s; takes = steps; goes = refl }
turn_some m n r s step (passes (Error fault) step1 m1 n1 r1 s1 steps is) goes =
    record { step = Err (Error fault); after = n; reader = s; takes = steps; goes = refl }
turn_some m n r s step (passes Finished step1 m1 n1 r1 s1 steps is) goes = absurd (goes is)
turn_some m n r s step (gives read step1 m1 n1 r1 s1 steps none is) goes = record { step = Ok read; after = n; reader = s; takes = steps; goes = refl }
turn_some m p r s step (object read opened step1 m1 n p1 r1 s1 steps some plain is at) goes =
    record { step = Ok read; after = n; reader = s; takes = steps; goes = refl }
turn_some m q r t step (seeks read opened c step1 m1 n p q1 r1 s t1 steps some function sought found) goes =
    record { step = Ok read; after = n; reader = s; takes = steps; goes = refl }
