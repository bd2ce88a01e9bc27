-- The numbers of open macros stay right, and tell whether a name is open.
use Rattle.std.proofs.Common.{◌≡◌, ◌∙◌, inl, inr, ℕ, zero, suc, Bool, true, false, List, [], ◌∷◌, ◌++◌, refl, sym, ap, subst, Option, Some, None, IfSome, Ok, Err}
use Rattle.std.specs.Prelude.{◌==◌, ◌||◌, position, Result}
use Rattle.std.specs.List.{list_any}
use Rattle.std.proofs.lemmas.Bool.{eq-eqb}
use Rattle.std.proofs.lemmas.Bool.Decides.{Decides-eqb}
use Rattle.std.proofs.lemmas.List.Folds.{list_any-append}
use Rattle.std.proofs.lemmas.Option.{same_Some}
use Rattle.pp_lexer.specs.declared.token.TokenValue.{TokenValue}
use Rattle.pp_lexer.specs.declared.token.TokenValue.TheVariants.{Ident}
use Rattle.pp_model.specs.declared.place.Place.{Place}
use Rattle.pp_model.specs.Places.{PlacedFault, place_of}
use Rattle.pp_model.specs.Calls.{Gathered}
use Rattle.pp_model.specs.declared.read.Read.{Read}
use Rattle.pp_model.specs.Names.{Name, is_in, is_same_name}
use Rattle.pp_model.specs.Painting.{is_one_of}
use Rattle.pp_macros.specs.Item.{PlacedStep, wants_memory}
use Rattle.pp_macros.specs.inner.Defined.{Defined, Macro, Numbered, AreNumbered, GrowAtEnd, names_in, number_in}
use Rattle.pp_macros.specs.inner.Expander.{Expander, StepsFetching, StepsTaking, held, moved, TakesNext, now, later, GathersNext, closed, inside, overfull, ended, failed, IsTakenOnto, TakesFlat, none_taken, taken_more, is_pause}
use Rattle.pp_macros.specs.inner.Frames.{Frame, Advance, advance, names_of}
use Rattle.pp_macros.specs.declared.calls.Taken.{Taken}
use Rattle.pp_macros.specs.declared.calls.Taken.TheVariants as taken
use Rattle.pp_macros.specs.inner.Calling.{MacroCall}
use Rattle.pp_macros.specs.inner.CallTurns.{paren_of, TurnsTo, TurnsOrRefuses, passes, gives, object, seeks, Seeks, Sought, alone, called, Finds, no_call, refused, gathered}
use Rattle.pp_macros.specs.inner.Left.{HaveNumbers, IsSound, numbers_in}
use Rattle.pp_macros.specs.inner.Nesting.{AreKnown, MacroProcessor, open_names, seen_by}
use Rattle.pp_macros.specs.inner.Reader.{Reader, definitions_of}
use Rattle.pp_macros.specs.inner.Turns.{frame_move, Moves, masks}
use Rattle.pp_macros.specs.declared.step.PlacedExit.TheVariants.{Continue, Finished, Error}
use Rattle.pp_macros.proofs.defined_names.FoundNamesLemmas.{IsFoundAt, found_at}
use Rattle.pp_macros.proofs.defined_names.GrowLemmas.{reads_grow}
use Rattle.pp_macros.proofs.defined_names.NameKeysLemmas.{names_same}
use Rattle.pp_macros.proofs.open_frames.AdvanceLemmas.{Advances, advance_lowers}
use Rattle.pp_macros.proofs.open_frames.OpenSoundLemmas.{numbers_more}
use Rattle.pp_macros.proofs.open_frames.ReportedLemmas.{taken_reported, painted_reported}
use Rattle.pp_macros.proofs.taking.NestingLemmas.{definitions_seen}

both_found : (name x : Name) (names : List Name) (k : ℕ) → IsFoundAt name names k → IsFoundAt x names k → is_same_name name x ≡ true
both_found name x [] k found other = absurd found
both_found name x (n ∷ names) zero found other = ap (is_same_name name) (names_same x n other) ∙ found
both_found name x (n ∷ names) (suc k) found other = both_found name x names k found.1 other.1

-- two names are the same if their numbers are
number_same : (names : List Name) (name x : Name) (id n : ℕ) → position (is_same_name name) names ≡ Some id → position (is_same_name x) names ≡ Some n
    → (n == id) ≡ is_same_name name x
number_same names name x id n found other = by (is_same_name name x) (n == id) refl refl
  where
    by : (b c : Bool) → is_same_name name x ≡ b → (n == id) ≡ c → c ≡ b
    by true c same e =
        let is : Some n ≡ Some id = sym other ∙ ap (λ (y : Name). position (is_same_name y) names) (sym (names_same name x same)) ∙ found in
        sym e ∙ eq-eqb n id (same_Some n id is)
    by false false apart e = refl
    by false true apart e =
        let there : position (is_same_name x) names ≡ Some id = other ∙ ap (λ (k : ℕ). Some k) ((Decides-eqb n id).0 e) in
        sym (both_found name x names id (found_at name names id found) (found_at x names id there)) ∙ apart

open_number : (names : List Name) (name : Name) (id : ℕ) (fs : List Frame) → position (is_same_name name) names ≡ Some id → HaveNumbers names fs
    → list_any (λ (f : Frame). f.number == id) fs ≡ is_in name (names_of fs)
open_number names name id [] found right = refl
open_number names name id (f ∷ fs) found right =
    ap (λ (b : Bool). b || list_any (λ (g : Frame). g.number == id) fs) (number_same names name f.name id f.number found right.0.0)
    ∙ ap (λ (b : Bool). is_same_name name f.name || b) (open_number names name id fs found right.1)

open_nowhere : (names : List Name) (name : Name) (fs : List Frame) → position (is_same_name name) names ≡ None → HaveNumbers names fs
    → is_in name (names_of fs) ≡ false
open_nowhere names name [] none right = refl
open_nowhere names name (f ∷ fs) none right = by (is_same_name name f.name) refl (open_nowhere names name fs none right.1)
  where
    by : (b : Bool) → is_same_name name f.name ≡ b → is_in name (names_of fs) ≡ false → (b || is_in name (names_of fs)) ≡ false
    by true same rest =
        let bad : None ≡ Some f.number = sym none ∙ ap (λ (y : Name). position (is_same_name y) names) (names_same name f.name same) ∙ right.0.0 in cc
    by false apart rest = rest

-- the name that has a number is open if a frame has the number
pub open_found : (names : List Name) (name : Name) (id : ℕ) (m : MacroProcessor) → AreKnown names m → position (is_same_name name) names ≡ Some id
    → list_any (λ (f : Frame). f.number == id) (m.here.frames ++ m.below) ≡ is_in name (open_names m)
open_found names name id m known found =
    list_any-append (λ (f : Frame). f.number == id) m.here.frames m.below
    ∙ ap (λ (b : Bool). b || list_any (λ (f : Frame). f.number == id) m.below) (open_number names name id m.here.frames found known.here)
    ∙ ap (λ (b : Bool). is_in name (names_of m.here.frames) || b) (open_number names name id m.below found known.around)
    ∙ sym (list_any-append (is_same_name name) (names_of m.here.frames) (names_of m.below))

-- a name without a number isn't open
pub not_open : (names : List Name) (name : Name) (m : MacroProcessor) → AreKnown names m → position (is_same_name name) names ≡ None
    → is_in name (open_names m) ≡ false
not_open names name m known none =
    list_any-append (is_same_name name) (names_of m.here.frames) (names_of m.below)
    ∙ ap (λ (b : Bool). b || is_in name (names_of m.below)) (open_nowhere names name m.here.frames none known.here)
    ∙ open_nowhere names name m.below none known.around

pub value_open : (names : List Name) (value : TokenValue) (id : ℕ) (m : MacroProcessor) → AreKnown names m → Some id ≡ number_in names value
    → list_any (λ (f : Frame). f.number == id) (m.here.frames ++ m.below) ≡ is_one_of (open_names m) value
value_open names (Ident name) id m known is = open_found names name id m known (sym is)
value_open names _ id m known is = cc

pub value_not_open : (names : List Name) (value : TokenValue) (m : MacroProcessor) → AreKnown names m → None ≡ number_in names value
    → false ≡ is_one_of (open_names m) value
value_not_open names (Ident name) m known is = sym (not_open names name m known (sym is))
value_not_open names _ m known is = refl

-- after a step of the frames, or of the reader
abbrev AreRight : Reader → List Frame → List Frame → Type 0
AreRight r fs below = HaveNumbers (names_in (definitions_of r)) fs × HaveNumbers (names_in (definitions_of r)) below

frame_right : (names : List Name) (f : Frame) (fs : List Frame) (o : Option Advance) → IfSome o (Advances f) → HaveNumbers names (f ∷ fs)
    → HaveNumbers names (frame_move fs o).after
frame_right names f fs None h right = right.1
frame_right names f fs (Some a) h right =
    let same : numbers_in a.after ≡ numbers_in f = rw (h.name, h.number, h.noted) refl in
    (subst (λ (noted : List Numbered). AreNumbered names noted) (sym same) right.0, right.1)

moves_right : (move : PlacedStep Read) (fs gs below : List Frame) (r s : Reader) → Moves fs r move gs s → wants_memory move ≡ false → AreRight r fs below
    → AreRight s gs below
moves_right move [] gs below r s h reported right =
    rw h.0 (tt, numbers_more (names_in (definitions_of r)) (names_in (definitions_of s)) below (reads_grow move r s h.1 reported) right.1)
moves_right move (f ∷ fs) gs below r s (same, inl h) reported right =
    rw (same, h.1) (frame_right (names_in (definitions_of r)) f fs (advance f) (advance_lowers f) right.0, right.1)
moves_right move (f ∷ fs) gs below r s (same, inr h) reported right = absurd (let bad : true ≡ false = rw h at reported in cc)

fetch_right : (step : PlacedStep Read) (m n : Expander) (r s : Reader) (below : List Frame) → StepsFetching m r step n s → wants_memory step ≡ false
    → AreRight r m.frames below → AreRight s n.frames below
fetch_right step m n r s below (held step1 m1 n1 r1 s1 is at same) reported right = rw (at, same) right
fetch_right step m n r s below (moved move step1 m1 n1 r1 s1 free moves is none) reported right =
    moves_right move m.frames n.frames below r s moves (taken_reported move n.frames s (rw is at reported)) right

step_right : (step : PlacedStep Read) (m n : Expander) (r s : Reader) (below : List Frame) → StepsTaking m r step n s → wants_memory step ≡ false
    → AreRight r m.frames below → AreRight s n.frames below
step_right step m n r s below steps reported right =
    fetch_right steps.first m n r s below steps.fetches (painted_reported (masks n.frames s) steps.first (rw steps.paints at reported)) right

pub next_right : (step : PlacedStep Read) (m n : Expander) (r s : Reader) (below : List Frame) → TakesNext m r step n s → wants_memory step ≡ false
    → AreRight r m.frames below → AreRight s n.frames below
next_right step m n r s below (now step1 m1 n1 r1 s1 steps goes) reported right = step_right step m n r s below steps reported right
next_right step m n r s below (later step1 m1 between n1 r1 s1 t1 steps next) reported right =
    next_right step between n s1 s below next reported (step_right (Err Continue) m between r s1 below steps refl right)

gather_right : (k : ℕ) (last : Place) (m n : Expander) (r s : Reader) (g : Result Gathered PlacedFault) (below : List Frame) → GathersNext k last m r g n s
    → AreRight r m.frames below → AreRight s n.frames below
gather_right k last m n r s g below (closed k1 last1 read m1 n1 r1 s1 g1 next out is) right = next_right (Ok read) m n r s below next refl right
gather_right k last m n r s g below (inside k1 l last1 read m1 between n1 r1 s1 t1 rest g1 next in_call more is) right =
    gather_right l (place_of read) between n s1 s rest below more (next_right (Ok read) m between r s1 below next refl right)
gather_right k last m n r s g below (overfull k1 last1 read m1 n1 r1 s1 g1 next out is) right = next_right (Ok read) m n r s below next refl right
gather_right k last m n r s g below (ended k1 last1 m1 n1 r1 s1 g1 next is) right = next_right (Err Finished) m n r s below next refl right
gather_right k last m n r s g below (failed k1 last1 fault m1 n1 r1 s1 g1 next reported is) right =
    next_right (Err (Error fault)) m n r s below next reported right

-- a call that is gathered
sought_right : (read : Read) (opened : Macro) (c : Sought) (call : MacroCall) (step : PlacedStep Taken) (n p q : Expander) (r s : Reader) (below : List Frame)
    → step ≡ Ok (taken.Call call) → Seeks n r c p s → Finds read opened c step p q → AreRight r n.frames below → AreRight s q.frames below
sought_right read opened (no_call next) call step n p q r s below is sought found right = absurd (let other = found.0 in cc)
sought_right read opened (refused fault) call step n p q r s below is sought found right = absurd (let other = found.0 in cc)
sought_right read opened (gathered paren g) call step n p q r s below is (alone next m1 n1 r1 s1 c1 takes none reported other) found right = cc
sought_right read opened (gathered paren g) call step n p q r t below is (called next paren1 m1 between p1 r1 s t1 g1 c1 takes opens gathers other) found right =
    rw found.1 (gather_right 0 paren1 between p s t g1 below gathers (next_right next n between r s below takes (reported next opens) right))
  where
    reported : (step : PlacedStep Read) → paren_of step ≡ Some paren1 → wants_memory step ≡ false
    reported (Ok read) opens = refl
    reported (Err exit) opens = cc

call_right : (call : MacroCall) (step : PlacedStep Taken) (m n : Expander) (r s : Reader) (below : List Frame) → step ≡ Ok (taken.Call call) → TurnsTo m r step n s
    → AreRight r m.frames below → AreRight s n.frames below
call_right call step m n r s below is (passes exit step1 m1 n1 r1 s1 steps other) right = cc
call_right call step m n r s below is (gives read step1 m1 n1 r1 s1 steps none other) right = cc
call_right call step m p r s below is (object read opened step1 m1 n p1 r1 s1 steps some plain other at) right = cc
call_right call step m q r t below is (seeks read opened c step1 m1 n p q1 r1 s t1 steps some function sought found) right =
    sought_right read opened c call step n p q s t below is sought found (step_right (Ok read) m n r s below steps refl right)

-- the same of a processor
pub known_right : (m : MacroProcessor) (r : Reader) → AreKnown (names_in (definitions_of r)) m → AreRight (seen_by m.below r) m.here.frames m.below
known_right m r known =
    subst (λ (ds : List Defined). HaveNumbers (names_in ds) m.here.frames × HaveNumbers (names_in ds) m.below) (sym (definitions_seen m.below r))
    (known.here, known.around)

pub right_known : (m n : MacroProcessor) (s : Reader) → n.below ≡ m.below → AreRight (seen_by n.below s) n.here.frames m.below
    → AreKnown (names_in (definitions_of s)) n
right_known m n s same right =
    let all = subst (λ (ds : List Defined). HaveNumbers (names_in ds) n.here.frames × HaveNumbers (names_in ds) m.below) (definitions_seen n.below s) right in
    record { here = all.0; around = rw same all.1 }

pub step_known : (step : PlacedStep Read) (m n : MacroProcessor) (r s : Reader) → StepsTaking m.here (seen_by m.below r) step n.here (seen_by n.below s)
    → wants_memory step ≡ false → n.below ≡ m.below → AreKnown (names_in (definitions_of r)) m → AreKnown (names_in (definitions_of s)) n
step_known step m n r s steps reported same known =
    right_known m n s same (step_right step m.here n.here (seen_by m.below r) (seen_by n.below s) m.below steps reported (known_right m r known))

pub fetch_known : (step : PlacedStep Read) (m n : MacroProcessor) (r s : Reader) → StepsFetching m.here (seen_by m.below r) step n.here (seen_by n.below s)
    → wants_memory step ≡ false → n.below ≡ m.below → AreKnown (names_in (definitions_of r)) m → AreKnown (names_in (definitions_of s)) n
fetch_known step m n r s steps reported same known =
    right_known m n s same (fetch_right step m.here n.here (seen_by m.below r) (seen_by n.below s) m.below steps reported (known_right m r known))

pub next_known : (step : PlacedStep Read) (m n : MacroProcessor) (r s : Reader) → TakesNext m.here (seen_by m.below r) step n.here (seen_by n.below s)
    → wants_memory step ≡ false → n.below ≡ m.below → AreKnown (names_in (definitions_of r)) m → AreKnown (names_in (definitions_of s)) n
next_known step m n r s next reported same known =
    right_known m n s same (next_right step m.here n.here (seen_by m.below r) (seen_by n.below s) m.below next reported (known_right m r known))

-- a pause, and what may be followed by a call
pub pause_known : (step : PlacedStep Read) (m n : MacroProcessor) (r s : Reader) → StepsTaking m.here (seen_by m.below r) step n.here (seen_by n.below s)
    → is_pause step ≡ true → n.below ≡ m.below → AreKnown (names_in (definitions_of r)) m → AreKnown (names_in (definitions_of s)) n
pause_known step m n r s steps paused same known = step_known step m n r s steps (reported step paused) same known
  where
    reported : (step : PlacedStep Read) → is_pause step ≡ true → wants_memory step ≡ false
    reported (Ok read) paused = refl
    reported (Err Continue) paused = refl
    reported (Err Finished) paused = refl
    reported (Err (Error fault)) paused = cc

pub paren_known : (step : PlacedStep Read) (paren : Place) (m n : MacroProcessor) (r s : Reader)
    → TakesNext m.here (seen_by m.below r) step n.here (seen_by n.below s) → paren_of step ≡ Some paren → n.below ≡ m.below
    → AreKnown (names_in (definitions_of r)) m → AreKnown (names_in (definitions_of s)) n
paren_known step paren m n r s next opens same known = next_known step m n r s next (reported step opens) same known
  where
    reported : (step : PlacedStep Read) → paren_of step ≡ Some paren → wants_memory step ≡ false
    reported (Ok read) opens = refl
    reported (Err exit) opens = cc

-- tokens that are taken one after the other
flat_right : (m : Expander) (r : Reader) (below : List Frame) (tokens : List Read) (s : Reader) (more : List Read) → TakesFlat m r tokens s more → AreRight r m.frames below
    → AreRight s m.frames below
flat_right m r below tokens s more (none_taken s1 more1 same is) right = rw same right
flat_right m r below tokens s more (taken_more between s1 some more1 flat onto apart) right =
    next_right (Ok onto.read) m m between s below onto.takes refl (flat_right m r below tokens between some flat right)

pub flat_known : (m : MacroProcessor) (r s : Reader) (tokens more : List Read) → TakesFlat m.here (seen_by m.below r) tokens (seen_by m.below s) more
    → AreKnown (names_in (definitions_of r)) m → AreKnown (names_in (definitions_of s)) m
flat_known m r s tokens more flat known =
    right_known m m s refl (flat_right m.here (seen_by m.below r) m.below tokens (seen_by m.below s) more flat (known_right m r known))

pub run_known : (m n : MacroProcessor) (r s between : Reader) (tokens some more : List Read) → TakesFlat m.here (seen_by m.below r) tokens between some
    → IsTakenOnto m.here between some n.here (seen_by n.below s) more → n.below ≡ m.below
    → AreKnown (names_in (definitions_of r)) m → AreKnown (names_in (definitions_of s)) n
run_known m n r s between tokens some more flat onto same known =
    right_known m n s same (next_right (Ok onto.read) m.here n.here between (seen_by n.below s) m.below onto.takes refl
    (flat_right m.here (seen_by m.below r) m.below tokens between some flat (known_right m r known)))

-- names that are added at the end
pub known_more : (old new : List Name) (m : MacroProcessor) → GrowAtEnd old new → AreKnown old m → AreKnown new m
known_more old new m grow known =
    record { here = numbers_more old new m.here.frames grow known.here; around = numbers_more old new m.below grow known.around }

-- open macros that are sound, with the same around
pub sound_known : (m n : MacroProcessor) (r : Reader) → IsSound n.here (seen_by m.below r) → n.below ≡ m.below
    → AreKnown (names_in (definitions_of r)) m → AreKnown (names_in (definitions_of r)) n
sound_known m n r sound same known = record {
  here = subst (λ (ds : List Defined). HaveNumbers (names_in ds) n.here.frames) (definitions_seen m.below r) sound.numbers;
  around = rw same known.around;
}

-- a call that is gathered
pub gathered_known : (call : MacroCall) (m n : MacroProcessor) (r s : Reader)
    → TurnsOrRefuses m.here (seen_by m.below r) (Ok (taken.Call call)) n.here (seen_by n.below s) → n.below ≡ m.below
    → AreKnown (names_in (definitions_of r)) m → AreKnown (names_in (definitions_of s)) n
gathered_known call m n r s (inl turns) same known =
    right_known m n s same (call_right call (Ok (taken.Call call)) m.here n.here (seen_by m.below r) (seen_by n.below s) m.below refl turns (known_right m r known))
gathered_known call m n r s (inr refusal) same known = let other = refusal.fault in cc

-- nothing is around
pub alone_known : (names : List Name) (m : MacroProcessor) → HaveNumbers names m.here.frames → names_of m.below ≡ [] → AreKnown names m
alone_known names m right none = record { here = right; around = nothing m.below none }
  where
    nothing : (fs : List Frame) → names_of fs ≡ [] → HaveNumbers names fs
    nothing [] none = tt
    nothing (f ∷ fs) none = cc

-- nothing is open
pub idle_known : (names : List Name) (m : MacroProcessor) → m.here.frames ≡ [] → m.below ≡ [] → AreKnown names m
idle_known names m none nothing =
    alone_known names m (subst (λ (fs : List Frame). HaveNumbers names fs) (sym none) tt) (ap names_of nothing)
