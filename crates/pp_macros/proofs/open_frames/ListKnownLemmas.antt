-- Turns over a list keep its definitions, so the numbers of open macros stay right.
use Rattle.std.proofs.Common.{◌≡◌, ◌∙◌, inl, inr, ℕ, true, false, List, [], ◌∷◌, ◌++◌, refl, sym, ap, subst, Some, None, Ok, Err}
use Rattle.std.specs.Prelude.{Result}
use Rattle.pp_model.specs.declared.place.Place.{Place}
use Rattle.pp_model.specs.Places.{PlacedFault, place_of}
use Rattle.pp_model.specs.Calls.{Gathered}
use Rattle.pp_model.specs.Names.{Name}
use Rattle.pp_model.specs.declared.read.Read.{Read}
use Rattle.pp_macros.specs.Item.{PlacedStep, wants_memory}
use Rattle.pp_macros.specs.declared.calls.Taken.{Taken}
use Rattle.pp_macros.specs.declared.calls.Taken.TheVariants as taken
use Rattle.pp_macros.specs.declared.step.PlacedExit.TheVariants.{Continue, Error, Finished}
use Rattle.pp_macros.specs.inner.Calling.{MacroCall}
use Rattle.pp_macros.specs.inner.CallTurns.{TurnsTo, passes, gives, object, seeks, Seeks, Sought, alone, called, is_out_of_memory_step, paren_of}
use Rattle.pp_macros.specs.inner.Defined.{Defined, names_in}
use Rattle.pp_macros.specs.inner.Expander.{Expander, StepsFetching, StepsTaking, held, moved, TakesNext, now, later, GathersNext, closed, inside, overfull, ended, failed}
use Rattle.pp_macros.specs.inner.Frames.{Frame}
use Rattle.pp_macros.specs.inner.Left.{HaveNumbers, IsSound}
use Rattle.pp_macros.specs.inner.Nesting.{AreKnown, MacroProcessor, listed_in}
use Rattle.pp_macros.specs.inner.Reader.{Reader, Listing, Reads, of_source, of_list}
use Rattle.pp_macros.specs.inner.Turns.{Moves, masks}
use Rattle.pp_macros.proofs.open_frames.ReportedLemmas.{taken_reported, painted_reported, wants_taken, exit_reported}
use Rattle.pp_macros.proofs.work.CallFallsLemmas.{IsPending, turn_falls}

-- a list with these definitions
abbrev IsListOf : List Defined → Reader → Type 0
IsListOf definitions (of_source source) = ⊥
IsListOf definitions (of_list list) = list.definitions ≡ definitions

module _ (definitions : List Defined) where
  reads_list : (step : PlacedStep Read) (r s : Reader) → Reads r step s → wants_memory step ≡ false → IsListOf definitions r → IsListOf definitions s
  reads_list step (of_list old) (of_list new) (inl h) reported same = ap (λ (l : Listing). l.definitions) h.1 ∙ same
  reads_list step (of_list old) (of_list new) (inr h) reported same = absurd (let bad : true ≡ false = rw h at reported in cc)
  reads_list step (of_list old) (of_source new) h reported same = absurd h
  reads_list step (of_source old) s h reported same = absurd same

  moves_list : (move : PlacedStep Read) (fs gs : List Frame) (r s : Reader) → Moves fs r move gs s → wants_memory move ≡ false → IsListOf definitions r
      → IsListOf definitions s
  moves_list move [] gs r s h reported same = reads_list move r s h.1 reported same
  moves_list move (f ∷ fs) gs r s h reported same = subst (IsListOf definitions) (sym h.0) same

  fetch_list : (step : PlacedStep Read) (m n : Expander) (r s : Reader) → StepsFetching m r step n s → wants_memory step ≡ false → IsListOf definitions r
      → IsListOf definitions s
  fetch_list step m n r s (held step1 m1 n1 r1 s1 is at stays) reported same = subst (IsListOf definitions) (sym stays) same
  fetch_list step m n r s (moved move step1 m1 n1 r1 s1 free moves is none) reported same =
      moves_list move m.frames n.frames r s moves (taken_reported move n.frames s (rw is at reported)) same

  step_list : (step : PlacedStep Read) (m n : Expander) (r s : Reader) → StepsTaking m r step n s → wants_memory step ≡ false → IsListOf definitions r
      → IsListOf definitions s
  step_list step m n r s steps reported same =
      fetch_list steps.first m n r s steps.fetches (painted_reported (masks n.frames s) steps.first (rw steps.paints at reported)) same

  next_list : (step : PlacedStep Read) (m n : Expander) (r s : Reader) → TakesNext m r step n s → wants_memory step ≡ false → IsListOf definitions r
      → IsListOf definitions s
  next_list step m n r s (now step1 m1 n1 r1 s1 steps goes) reported same = step_list step m n r s steps reported same
  next_list step m n r s (later step1 m1 between n1 r1 s1 t1 steps next) reported same =
      next_list step between n s1 s next reported (step_list (Err Continue) m between r s1 steps refl same)

  gather_list : (k : ℕ) (last : Place) (m n : Expander) (r s : Reader) (g : Result Gathered PlacedFault) → GathersNext k last m r g n s → IsListOf definitions r
      → IsListOf definitions s
  gather_list k last m n r s g (closed k1 last1 read m1 n1 r1 s1 g1 next out is) same = next_list (Ok read) m n r s next refl same
  gather_list k last m n r s g (inside k1 l last1 read m1 between n1 r1 s1 t1 rest g1 next in_call more is) same =
      gather_list l (place_of read) between n s1 s rest more (next_list (Ok read) m between r s1 next refl same)
  gather_list k last m n r s g (overfull k1 last1 read m1 n1 r1 s1 g1 next out is) same = next_list (Ok read) m n r s next refl same
  gather_list k last m n r s g (ended k1 last1 m1 n1 r1 s1 g1 next is) same = next_list (Err Finished) m n r s next refl same
  gather_list k last m n r s g (failed k1 last1 fault m1 n1 r1 s1 g1 next reported is) same = next_list (Err (Error fault)) m n r s next reported same

  next_wants : (step : PlacedStep Read) → is_out_of_memory_step step ≡ false → wants_memory step ≡ false
  next_wants (Ok read) reported = refl
  next_wants (Err Continue) reported = refl
  next_wants (Err Finished) reported = refl
  next_wants (Err (Error fault)) reported = reported

  paren_wants : (step : PlacedStep Read) (paren : Place) → paren_of step ≡ Some paren → wants_memory step ≡ false
  paren_wants (Ok read) paren opens = refl
  paren_wants (Err exit) paren opens = cc

  seek_list : (c : Sought) (m n : Expander) (r s : Reader) → Seeks m r c n s → IsListOf definitions r → IsListOf definitions s
  seek_list c m n r s (alone next m1 n1 r1 s1 c1 takes none reported is) same = next_list next m n r s takes (next_wants next reported) same
  seek_list c m p r t (called next paren m1 n p1 r1 s t1 g c1 takes opens gathers is) same =
      gather_list 0 paren n p s t g gathers (next_list next m n r s takes (paren_wants next paren opens) same)

  turn_list : (step : PlacedStep Taken) (m n : Expander) (r s : Reader) → TurnsTo m r step n s → wants_taken step ≡ false → IsListOf definitions r
      → IsListOf definitions s
  turn_list step m n r s (passes exit step1 m1 n1 r1 s1 steps is) reported same =
      step_list (Err exit) m n r s steps (exit_reported exit (rw is at reported)) same
  turn_list step m n r s (gives read step1 m1 n1 r1 s1 steps none is) reported same = step_list (Ok read) m n r s steps refl same
  turn_list step m p r s (object read opened step1 m1 n p1 r1 s1 steps some plain is at) reported same = step_list (Ok read) m n r s steps refl same
  turn_list step m q r t (seeks read opened c step1 m1 n p q1 r1 s t1 steps some function sought found) reported same =
      seek_list c n p s t sought (step_list (Ok read) m n r s steps refl same)

  -- a turn over a list
  pub list_kept : (step : PlacedStep Taken) (m n : Expander) (below around : List Frame) (l k : Listing)
      → TurnsTo m (of_list (listed_in below l)) step n (of_list (listed_in around k)) → wants_taken step ≡ false → l.definitions ≡ definitions
      → k.definitions ≡ definitions
  list_kept step m n below around l k turns reported same =
      turn_list step m n (of_list (listed_in below l)) (of_list (listed_in around k)) turns reported same

-- open macros that are sound over a list, with the same around
pub list_known : (m n : MacroProcessor) (below : List Frame) (l : Listing) (definitions : List Defined) → IsSound n.here (of_list (listed_in below l))
    → l.definitions ≡ definitions → n.below ≡ m.below → AreKnown (names_in definitions) m → AreKnown (names_in l.definitions) n
list_known m n below l definitions sound same around known =
    record { here = sound.numbers; around = rw (same, around) known.around }

-- the same where a call is pending
pub call_known : (levels : ℕ) (m n : MacroProcessor) (p : Expander) (below : List Frame) (l k : Listing) (definitions : List Defined) (c : MacroCall)
    → IsSound p (of_list l) → TurnsTo p (of_list l) (Ok (taken.Call c)) n.here (of_list (listed_in below k))
    → k.definitions ≡ definitions → n.below ≡ m.below → AreKnown (names_in definitions) m → AreKnown (names_in definitions) n
call_known levels m n p below l k definitions c sound turns there kept known =
    let pending : IsPending levels p (of_list l) c n.here (of_list (listed_in below k)) =
    turn_falls levels p (of_list l) sound (Ok (taken.Call c)) n.here (of_list (listed_in below k)) turns refl in
    record { here = subst (λ (ds : List Defined). HaveNumbers (names_in ds) n.here.frames) there pending.sound.numbers.1; around = rw kept known.around }

-- the numbers of both lists
numbers_both : (names : List Name) (fs gs : List Frame) → HaveNumbers names fs → HaveNumbers names gs → HaveNumbers names (fs ++ gs)
numbers_both names [] gs right more = more
numbers_both names (f ∷ fs) gs right more = (right.0, numbers_both names fs gs right.1 more)

-- an argument begins
pub nested_known : (names : List Name) (m n : MacroProcessor) → n ≡ record { here = record { held = None; frames = [] }; below = m.here.frames ++ m.below }
    → AreKnown names m → AreKnown names n
nested_known names m n is known = rw is (record { here = tt; around = numbers_both names m.here.frames m.below known.here known.around })
