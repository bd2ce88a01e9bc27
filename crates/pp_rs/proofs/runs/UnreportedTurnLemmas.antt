-- A turn over a source leaves its errors of the lexer unreported, except for the one that it gives, and for those that are
-- passed. It keeps the rules.
use Rattle.std.proofs.Common.{◌≡◌, ◌∙◌, ℕ, Bool, false, List, [], ◌∷◌, refl, ap, sym, subst, Option, Some, None, Result, Ok, Err}
use Rattle.pp_lexer.specs.declared.rules.Rules.{Rules}
use Rattle.pp_lexer.specs.declared.token.Token.{Token}
use Rattle.pp_model.specs.declared.place.Place.{Place}
use Rattle.pp_model.specs.Places.{Fault, PlacedFault, place_of, unplaced}
use Rattle.pp_model.specs.declared.read.Read.{Read}
use Rattle.pp_model.specs.Calls.{Gathered, before}
use Rattle.pp_model.specs.Names.{Name}
use Rattle.pp_macros.specs.inner.Calling.{MacroCall}
use Rattle.pp_macros.specs.inner.CallTurns.{Sought, no_call, sought_by, Seeks, alone, called, Finds, TurnsTo, passes, gives, object, seeks, paren_of, is_out_of_memory_step}
use Rattle.pp_macros.specs.inner.Defined.{Macro}
use Rattle.pp_rs.specs.inner.Fit.{GoesBy, IsReported}
use Rattle.pp_macros.specs.inner.Frames.{Frame}
use Rattle.pp_macros.specs.Item.{PlacedStep, is_out_of_memory, wants_memory}
use Rattle.pp_macros.specs.LexerErrors.{ErrorAt, PassesErrors}
use Rattle.pp_macros.specs.inner.Expander.{Expander, StepsFetching, StepsTaking, held, moved, TakesNext, now, later, GathersNext, closed, inside, overfull, ended, failed, taken_as}
use Rattle.pp_macros.specs.inner.Reader.{Reader, of_source, of_list, Reads}
use Rattle.pp_macros.specs.inner.Source.{Source, unreported_of}
use Rattle.pp_rs.specs.inner.AllTexts.{all_unreported}
use Rattle.pp_rs.specs.inner.SourceTurns.{FollowsCall, opened, refused as call_refused, FollowsTurn, TurnsSource}
use Rattle.pp_macros.specs.inner.Reading.{painted_step}
use Rattle.pp_macros.specs.inner.Turns.{Moves, masks}
use Rattle.pp_macros.specs.inner.Unreported.{Unreported, with_read, ExitReports, StepReports, unreported_with, IsReportedBut}
use Rattle.pp_macros.specs.declared.calls.Taken.{Taken}
use Rattle.pp_macros.specs.declared.calls.Taken.TheVariants as taken
use Rattle.pp_macros.specs.declared.step.PlacedExit.{PlacedExit}
use Rattle.pp_macros.specs.declared.step.PlacedExit.TheVariants.{Error, Continue, Finished}
use Rattle.pp_rs.proofs.runs.ReadyLemmas.{step_free, next_free, gather_free}
use Rattle.pp_directives.proofs.PassedErrorsLemmas.{passes_none, step_same}
use Rattle.pp_rs.proofs.runs.PassedErrorsLemmas.{passes_then, none_passes}
use Rattle.pp_rs.proofs.source.RulesLemmas.{reads_by}
use Rattle.pp_rs.proofs.source.AllTextsLemmas.{reads_tell as texts_tell}

-- a list of tokens has no errors of the lexer
abbrev unreported_in : Reader → Unreported
unreported_in (of_source source) = all_unreported source
unreported_in (of_list list) = record { read = None; later = [] }

abbrev fault_of_exit : PlacedExit → Option Fault
fault_of_exit (Error fault) = Some (unplaced fault)
fault_of_exit _ = None

abbrev fault_of : {A : Type 0} → PlacedStep A → Option Fault
fault_of (Ok value) = None
fault_of (Err exit) = fault_of_exit exit

abbrev fault_in : {A : Type 0} → Result A PlacedFault → Option Fault
fault_in (Ok value) = None
fault_in (Err fault) = Some (unplaced fault)

painted_fault : (names : List Name) (first : PlacedStep Read) → fault_of (painted_step names first) ≡ fault_of first
painted_fault names (Ok read) = refl
painted_fault names (Err exit) = refl

abbrev UnreportedFirst : Expander → Reader → List ErrorAt
UnreportedFirst m r = unreported_with m.held (unreported_in r)

-- the errors that are unreported of a source and of the texts around
abbrev pub errors_of : Expander → Source → List ErrorAt
errors_of expander source = unreported_with expander.held (all_unreported source)

-- whether an error was read is a matter of the text that is read
but_all : (held : Option (PlacedStep Read)) (source : Source) → IsReportedBut held (unreported_of source) → IsReportedBut held (all_unreported source)
but_all (Some (Err (Error fault))) source h = tt
but_all _ source h = h

but_own : (held : Option (PlacedStep Read)) (source : Source) → IsReportedBut held (all_unreported source) → IsReportedBut held (unreported_of source)
but_own (Some (Err (Error fault))) source h = tt
but_own _ source h = h

module _ (rules : Rules) where
  abbrev passes_dead : Bool
  passes_dead = rules.passes_dead_errors

  reads_tell : (r s : Reader) (step : PlacedStep Read) → Reads r step s → GoesBy rules r → StepReports passes_dead step (unreported_in r) (unreported_in s)
  reads_tell (of_source old) (of_source new) step h by =
      subst (λ (rs : Rules). StepReports rs.passes_dead_errors step (all_unreported old) (all_unreported new)) by
      (texts_tell old new step h)
  reads_tell (of_list old) (of_list new) step h by = step_same passes_dead step _ _ refl
  reads_tell (of_source old) (of_list new) step h by = absurd h
  reads_tell (of_list old) (of_source new) step h by = absurd h

  moves_tell : (fs gs : List Frame) (r s : Reader) (move : PlacedStep Read) → Moves fs r move gs s → GoesBy rules r
      → StepReports passes_dead move (unreported_in r) (unreported_in s)
  moves_tell [] gs r s move h by = reads_tell r s move h.1 by
  moves_tell (f ∷ fs) gs r s move h by = step_same passes_dead move (unreported_in r) (unreported_in s) (ap unreported_in h.0)

  pub moves_by : (fs gs : List Frame) (r s : Reader) (move : PlacedStep Read) → Moves fs r move gs s → GoesBy rules r → wants_memory move ≡ false → GoesBy rules s
  moves_by [] gs r s move h by reported = reads_by rules r s move h.1 by reported
  moves_by (f ∷ fs) gs r s move h by reported = rw h.0 by

  -- these errors were unreported; some may be passed, and a fault may have reported the first of those that are left
  abbrev Leaves : Option Fault → List ErrorAt → Reader → Type 0
  Leaves None errors s = PassesErrors passes_dead errors (unreported_in s).later × ((unreported_in s).read ≡ None) × GoesBy rules s
  Leaves (Some fault) errors s = is_out_of_memory fault.0 ≡ false
      → PassesErrors passes_dead errors (with_read fault (unreported_in s).read (unreported_in s).later) × GoesBy rules s

  -- a fault that is no error of the lexer
  own_fault : (fault : Fault) (errors : List ErrorAt) (s : Reader) → Leaves None errors s → Leaves (Some fault) errors s
  own_fault fault errors s h reported = (rw h.1 h.0, h.2)

  quiet : (o : Option Fault) (errors : List ErrorAt) (s : Reader) → Leaves None errors s → Leaves o errors s
  quiet None errors s h = h
  quiet (Some fault) errors s h = own_fault fault errors s h

  nothing_read : (r s : Reader) → unreported_in s ≡ unreported_in r → (unreported_in r).read ≡ None → GoesBy rules s → Leaves None (unreported_in r).later s
  nothing_read r s same none by = (
    passes_none passes_dead _ _ (ap (λ (u : Unreported). u.later) same),
    ap (λ (u : Unreported). u.read) same ∙ none,
    by,
  )

  exit_leaves : (exit : PlacedExit) (r s : Reader) → ExitReports passes_dead exit (unreported_in r) (unreported_in s) → (unreported_in r).read ≡ None
      → (wants_memory {T = Read} (Err exit) ≡ false → GoesBy rules s) → Leaves (fault_of_exit exit) (unreported_in r).later s
  exit_leaves (Error fault) r s h none by = λ reported. (h reported none, by reported)
  exit_leaves Continue r s h none by =
      let passed = none_passes passes_dead (unreported_in r) (unreported_in s) h none in
      (passed.0, passed.1, by refl)
  exit_leaves Finished r s h none by = nothing_read r s h none (by refl)

  taken_leaves : (move : PlacedStep Read) (fs : List Frame) (r s : Reader) → StepReports passes_dead move (unreported_in r) (unreported_in s)
      → (unreported_in r).read ≡ None → (wants_memory move ≡ false → GoesBy rules s)
      → Leaves (fault_of (taken_as move fs s)) (unreported_in r).later s
  taken_leaves (Ok read) fs r s h none by =
      let passed = none_passes passes_dead (unreported_in r) (unreported_in s) h none in
      quiet (fault_of (taken_as (Ok read) fs s)) (unreported_in r).later s (passed.0, passed.1, by refl)
  taken_leaves (Err exit) fs r s h none by = exit_leaves exit r s h none by

  -- what was held is reported
  held_leaves : (step : PlacedStep Read) (s : Reader) → IsReportedBut (Some step) (unreported_in s) → GoesBy rules s
      → Leaves (fault_of step) (unreported_with (Some step) (unreported_in s)) s
  held_leaves (Err (Error fault)) s h by = λ reported. (passes_none passes_dead _ _ refl, by)
  held_leaves _ s h by = (passes_none passes_dead _ _ refl, h, by)

  abbrev IsReportedFirst : Expander → Reader → Type 0
  IsReportedFirst m r = IsReportedBut m.held (unreported_in r) × GoesBy rules r

  fetch_leaves : (m n : Expander) (r s : Reader) (step : PlacedStep Read) → StepsFetching m r step n s → IsReportedFirst m r
      → Leaves (fault_of step) (UnreportedFirst m r) s
  fetch_leaves m n r s step (held step1 m1 n1 r1 s1 is at same) reported =
      rw (is, same) (held_leaves step r (subst (λ (o : Option (PlacedStep Read)). IsReportedBut o (unreported_in r)) is reported.0) reported.1)
  fetch_leaves m n r s step (moved move step1 m1 n1 r1 s1 free moves is none) reported =
      subst (λ (o : Option (PlacedStep Read)). Leaves (fault_of step) (unreported_with o (unreported_in r)) s) (sym free)
      (subst (λ (x : PlacedStep Read). Leaves (fault_of x) (unreported_in r).later s) (sym is)
      (taken_leaves move n.frames r s (moves_tell m.frames n.frames r s move moves reported.1)
      (subst (λ (o : Option (PlacedStep Read)). IsReportedBut o (unreported_in r)) free reported.0)
      (moves_by m.frames n.frames r s move moves reported.1)))

  step_leaves : (m n : Expander) (r s : Reader) (step : PlacedStep Read) → StepsTaking m r step n s → IsReportedFirst m r
      → Leaves (fault_of step) (UnreportedFirst m r) s
  step_leaves m n r s step steps reported =
      rw (steps.paints, painted_fault (masks n.frames s) steps.first) (fetch_leaves m n r s steps.first steps.fetches reported)

  -- where nothing is held, and no error was read
  pub record IsClear (errors : List ErrorAt) (n : Expander) (s : Reader) : Type 0 where
    pub free : n.held ≡ None
    pub leaves : Leaves None errors s

  clear_reported : (errors : List ErrorAt) (n : Expander) (s : Reader) → IsClear errors n s → IsReportedFirst n s
  clear_reported errors n s c =
      (subst (λ (o : Option (PlacedStep Read)). IsReportedBut o (unreported_in s)) (sym c.free) c.leaves.1, c.leaves.2)

  clear_passes : (errors : List ErrorAt) (n : Expander) (s : Reader) → IsClear errors n s → PassesErrors passes_dead errors (UnreportedFirst n s)
  clear_passes errors n s c =
      subst (λ (o : Option (PlacedStep Read)). PassesErrors passes_dead errors (unreported_with o (unreported_in s))) (sym c.free) c.leaves.0

  -- what is left after something that left these
  goes_on : (o : Option Fault) (errors : List ErrorAt) (n : Expander) (s t : Reader) → IsClear errors n s
      → Leaves o (UnreportedFirst n s) t → Leaves o errors t
  goes_on None errors n s t c h = (passes_then passes_dead errors _ _ (clear_passes errors n s c) h.0, h.1, h.2)
  goes_on (Some fault) errors n s t c h = λ reported.
      let left = h reported in
      (passes_then passes_dead errors _ _ (clear_passes errors n s c) left.0, left.1)

  next_leaves : (m n : Expander) (r s : Reader) (step : PlacedStep Read) → TakesNext m r step n s → IsReportedFirst m r
      → Leaves (fault_of step) (UnreportedFirst m r) s
  next_leaves m n r s step (now step1 m1 n1 r1 s1 steps goes) reported = step_leaves m n r s step steps reported
  next_leaves m n r s step (later step1 m1 between n1 r1 s1 t1 steps next) reported =
      let c : IsClear (UnreportedFirst m r) between s1 = record {
        free = step_free m between r s1 (Err Continue) steps;
        leaves = step_leaves m between r s1 (Err Continue) steps reported;
      } in
      goes_on (fault_of step) (UnreportedFirst m r) between s1 s c (next_leaves between n s1 s step next (clear_reported (UnreportedFirst m r) between s1 c))

  before_leaves : (read : Read) (rest : Result Gathered PlacedFault) (errors : List ErrorAt) (s : Reader) → Leaves (fault_in rest) errors s
      → Leaves (fault_in (before read rest)) errors s
  before_leaves read (Ok rest) errors s h = h
  before_leaves read (Err fault) errors s h = h

  gather_leaves : (k : ℕ) (last : Place) (m n : Expander) (r s : Reader) (g : Result Gathered PlacedFault) → GathersNext k last m r g n s
      → IsReportedFirst m r → Leaves (fault_in g) (UnreportedFirst m r) s
  gather_leaves k last m n r s g (closed k1 last1 read m1 n1 r1 s1 g1 next out is) reported =
      rw is (next_leaves m n r s (Ok read) next reported)
  gather_leaves k last m n r s g (inside k1 l last1 read m1 between n1 r1 s1 t1 rest g1 next in_call more is) reported =
      let c : IsClear (UnreportedFirst m r) between s1 = record {
        free = next_free m between r s1 (Ok read) next;
        leaves = next_leaves m between r s1 (Ok read) next reported;
      } in
      let h = goes_on (fault_in rest) (UnreportedFirst m r) between s1 s c
      (gather_leaves l (place_of read) between n s1 s rest more (clear_reported (UnreportedFirst m r) between s1 c)) in
      rw is (before_leaves read rest (UnreportedFirst m r) s h)
  gather_leaves k last m n r s g (overfull k1 last1 read m1 n1 r1 s1 g1 next out is) reported =
      rw is (own_fault _ (UnreportedFirst m r) s (next_leaves m n r s (Ok read) next reported))
  gather_leaves k last m n r s g (ended k1 last1 m1 n1 r1 s1 g1 next is) reported =
      rw is (own_fault _ (UnreportedFirst m r) s (next_leaves m n r s (Err Finished) next reported))
  gather_leaves k last m n r s g (failed k1 last1 fault m1 n1 r1 s1 g1 next kept is) reported =
      rw is (next_leaves m n r s (Err (Error fault)) next reported)

  -- what a turn leaves: what is left, though an error may be held now, or what a fault leaves
  abbrev TakenLeaves : PlacedStep Taken → List ErrorAt → Expander → Reader → Type 0
  TakenLeaves (Ok (taken.Token read)) errors n s = IsReportedFirst n s × PassesErrors passes_dead errors (UnreportedFirst n s)
  TakenLeaves (Ok (taken.Call call)) errors n s = IsClear errors n s
  TakenLeaves (Err exit) errors n s = (n.held ≡ None) × Leaves (fault_of_exit exit) errors s

  holds_next : (next : PlacedStep Read) (errors : List ErrorAt) (s : Reader) → is_out_of_memory_step next ≡ false → Leaves (fault_of next) errors s
      → (IsReportedBut (Some next) (unreported_in s) × GoesBy rules s) × PassesErrors passes_dead errors (unreported_with (Some next) (unreported_in s))
  holds_next (Err (Error fault)) errors s reported h =
      let left = h reported in
      ((tt, left.1), left.0)
  holds_next _ errors s reported h = ((h.1, h.2), h.0)

  find_leaves : (read : Read) (macro : Macro) (c : Sought) (step : PlacedStep Taken) (errors : List ErrorAt)
      (m p q : Expander) (r t : Reader) → Seeks m r c p t → Finds read macro c step p q → IsClear errors m r → TakenLeaves step errors q t
  find_leaves read macro c step errors m p q r t (alone next m1 n1 r1 s1 c1 takes apart reported is) finds clear =
      let h : Leaves (fault_of next) errors t =
      goes_on (fault_of next) errors m r t clear (next_leaves m p r t next takes (clear_reported errors m r clear)) in
      let f : Finds read macro (no_call next) step p q = subst (λ (x : Sought). Finds read macro x step p q) is finds in
      rw (f.0, f.1) (holds_next next errors t reported h)
  find_leaves read macro c step errors m p q r t (called next paren m1 between n1 r1 s1 t1 g c1 takes at gathers is) finds clear =
      go g gathers (subst (λ (x : Sought). Finds read macro x step p q) is finds)
    where
      clear_paren : (next : PlacedStep Read) → paren_of next ≡ Some paren → TakesNext m r next between s1 → IsClear errors between s1
      clear_paren (Ok other) e takes = record {
        free = next_free m between r s1 (Ok other) takes;
        leaves = goes_on None errors m r s1 clear (next_leaves m between r s1 (Ok other) takes (clear_reported errors m r clear));
      }
      clear_paren (Err exit) e takes = cc

      go : (g : Result Gathered PlacedFault) → GathersNext 0 paren between s1 g p t → Finds read macro (sought_by paren g) step p q
          → TakenLeaves step errors q t
      go (Ok found) gathers f =
          let c = clear_paren next at takes in
          let h = goes_on None errors between s1 t c (gather_leaves 0 paren between p s1 t (Ok found) gathers (clear_reported errors between s1 c)) in
          rw (f.0, f.1) (record { free = gather_free 0 paren between p s1 t (Ok found) gathers; leaves = h })
      go (Err fault) gathers f =
          let c = clear_paren next at takes in
          let h = goes_on (Some (unplaced fault)) errors between s1 t c (gather_leaves 0 paren between p s1 t (Err fault) gathers (clear_reported errors between s1 c)) in
          rw (f.0, f.1) (gather_free 0 paren between p s1 t (Err fault) gathers, h)

  turn_leaves : (m n : Expander) (r s : Reader) (step : PlacedStep Taken) → TurnsTo m r step n s → IsReportedFirst m r → TakenLeaves step (UnreportedFirst m r) n s
  turn_leaves m n r s step (passes exit step1 m1 n1 r1 s1 takes is) reported =
      rw is (step_free m n r s (Err exit) takes, step_leaves m n r s (Err exit) takes reported)
  turn_leaves m n r s step (gives read step1 m1 n1 r1 s1 takes apart is) reported =
      let c : IsClear (UnreportedFirst m r) n s = record { free = step_free m n r s (Ok read) takes; leaves = step_leaves m n r s (Ok read) takes reported } in
      rw is (clear_reported (UnreportedFirst m r) n s c, clear_passes (UnreportedFirst m r) n s c)
  turn_leaves m p r s step (object read macro step1 m1 n p1 r1 s1 takes opens plain is at) reported =
      rw (is, at) (step_free m n r s (Ok read) takes, step_leaves m n r s (Ok read) takes reported)
  turn_leaves m q r t step (seeks read macro c step1 m1 n p q1 r1 s t1 takes opens by_call sought finds) reported =
      find_leaves read macro c step (UnreportedFirst m r) n p q s t sought finds
      (record { free = step_free m n r s (Ok read) takes; leaves = step_leaves m n r s (Ok read) takes reported })

  -- What a turn leaves of the errors: those that are not passed, but for the fault that it gives.
  abbrev pub ErrorsLeft : PlacedStep Read → List ErrorAt → Expander → Source → Type 0
  ErrorsLeft (Err (Error fault)) errors n new =
      (n.held ≡ None) × PassesErrors passes_dead errors (with_read (unplaced fault) new.error_place (all_unreported new).later) × (new.rules ≡ rules)
  ErrorsLeft _ errors n new = IsReported rules n new × PassesErrors passes_dead errors (errors_of n new)

  -- the same of errors before those
  pub left_then : (step : PlacedStep Read) (errors between : List ErrorAt) (n : Expander) (new : Source) → PassesErrors passes_dead errors between
      → ErrorsLeft step between n new → ErrorsLeft step errors n new
  left_then (Err (Error fault)) errors between n new h k = (k.0, passes_then passes_dead errors between _ h k.1, k.2)
  left_then _ errors between n new h k = (k.0, passes_then passes_dead errors between _ h k.1)

  -- the rules stay
  pub left_rules : (step : PlacedStep Read) (errors : List ErrorAt) (n : Expander) (new : Source) → ErrorsLeft step errors n new → new.rules ≡ rules
  left_rules (Err (Error fault)) errors n new h = h.2
  left_rules _ errors n new h = h.0.1

  reported_own : (n : Expander) (new : Source) → IsReportedFirst n (of_source new) → IsReported rules n new
  reported_own n new h = (but_own n.held new h.0, h.1)

  clear_left : (step : PlacedStep Read) (errors : List ErrorAt) (n : Expander) (new : Source) → IsClear errors n (of_source new) → ErrorsLeft step errors n new
  clear_left (Err (Error fault)) errors n new c = (c.free, rw c.leaves.1 c.leaves.0, c.leaves.2)
  clear_left _ errors n new c = (reported_own n new (clear_reported errors n (of_source new) c), clear_passes errors n (of_source new) c)

  exit_left : (exit : PlacedExit) (errors : List ErrorAt) (n : Expander) (new : Source) → (n.held ≡ None)
      × Leaves (fault_of_exit exit) errors (of_source new) → wants_memory {T = Token} (Err exit) ≡ false → ErrorsLeft (Err exit) errors n new
  exit_left (Error fault) errors n new h reported =
      let left = h.1 reported in
      (h.0, left.0, left.1)
  exit_left exit errors n new h reported = clear_left (Err exit) errors n new (record { free = h.0; leaves = h.1 })

  call_left : (levels : ℕ) (source : Source) (c : MacroCall) (errors : List ErrorAt) (k n : Expander) (new : Source) (step : PlacedStep Read)
      → FollowsCall levels source c k step n → IsClear errors k (of_source new) → ErrorsLeft step errors n new
  call_left levels source c errors k n new step (opened is o) clear =
      rw is (clear_left (Err Continue) errors n new (record { free = ap (λ (x : Expander). x.held) o.opens ∙ clear.free; leaves = clear.leaves }))
  call_left levels source c errors k n new step (call_refused fault is answers same) clear =
      rw (is, same) (clear_left (Err (Error fault)) errors k new clear)

  follows_left : (levels : ℕ) (source : Source) (t : PlacedStep Taken) (errors : List ErrorAt) (k n : Expander) (new : Source) (step : PlacedStep Read)
      → FollowsTurn levels source t k step n → TakenLeaves t errors k (of_source new) → wants_memory step ≡ false → ErrorsLeft step errors n new
  follows_left levels source (Ok (taken.Token read)) errors k n new step f h reported = rw (f.0, f.1) (reported_own k new h.0, h.1)
  follows_left levels source (Ok (taken.Call call)) errors k n new step f h reported = call_left levels source call errors k n new step f h
  follows_left levels source (Err exit) errors k n new step f h reported = rw (f.0, f.1) (exit_left exit errors k new h (rw f.0 at reported))

  -- one turn over a source
  pub turn_errors : (levels : ℕ) (m n : Expander) (old new : Source) (step : PlacedStep Read) → TurnsSource levels m old step n new
      → wants_memory step ≡ false → IsReported rules m old → ErrorsLeft step (errors_of m old) n new
  turn_errors levels m n old new step h wants reported =
      follows_left levels new h.taken (errors_of m old) h.between n new step h.follows
      (turn_leaves m h.between (of_source old) (of_source new) h.taken h.turns (but_all m.held old reported.0, reported.1)) wants
