-- Each step of taking spends: fewer steps are left in the regions, and there is room for a frame after a token.
use Rattle.std.proofs.Common.{◌≡◌, ◌∙◌, ◌⊎◌, inl, inr, ℕ, suc, ◌+◌, ◌-◌, ◌<◌, ◌≤◌, Bool, true, false, if◌then◌else◌, List, [], ◌∷◌, length, arith, le_trans, lt_of_le_of_lt, lt_of_lt_of_le, ap, sym, refl, Option, Some, None, IfSome, IfOk, MatchBool, unwrap_or, Result, Ok, Err}
use Rattle.std.specs.Fn.{iterate}
use Rattle.pp_lexer.specs.declared.token.Token.{Token}
use Rattle.pp_model.specs.declared.place.Place.{Place}
use Rattle.pp_model.specs.Places.{PlacedFault, place_of}
use Rattle.pp_model.specs.declared.read.Read.{Read}
use Rattle.pp_model.specs.Calls.{Gathered, before}
use Rattle.pp_model.specs.Names.{Name, is_identifier, line_name}
use Rattle.pp_model.specs.Taking.{line_number}
use Rattle.pp_model.specs.Sights.{sight_of}
use Rattle.pp_model.specs.declared.read.Taken.TheVariants as given
use Rattle.pp_macros.specs.inner.Frames.{Frame, Advance, advance, outermost_frame_line}
use Rattle.pp_macros.specs.Item.{PlacedStep, wants_memory}
use Rattle.pp_model.specs.inner.Reading.{after_listed}
use Rattle.pp_macros.specs.inner.Defined.{body_tokens}
use Rattle.pp_macros.specs.inner.Left.{reads_left, most_open, most_bodies, one_more, holding_step, regions_of, regions}
use Rattle.pp_macros.specs.inner.Expander.{Expander, is_pause, step_of_outcome, taken_as, StepsFetching, StepsTaking, held, moved, TakesNext, now, later, GathersNext, closed, inside, overfull, ended, failed}
use Rattle.pp_macros.specs.inner.Reach.{growth, through, total}
use Rattle.pp_macros.specs.inner.Reader as reader
use Rattle.pp_macros.specs.inner.Reader.{IsTextOver, Reader, of_source, of_list, Listing, listed_step, Reads, shown_line}
use Rattle.pp_macros.specs.inner.Source.{SuspendedText, resumed, Source, StepsSource, IsRefusedStep, Ends, MakesMove, HasEffect}
use Rattle.pp_model.specs.Moves.{Effect, gives, gives_item, asks, fails, ends, passes, defines, undefines, tests, decides, renumbers}
use Rattle.pp_macros.specs.inner.SourceMoves.{Note, move_of, note_of}
use Rattle.pp_macros.specs.inner.OpenBlocks.{last_block, BlockChange, block_change_at}
use Rattle.pp_macros.specs.declared.blocks.OpenBlock.{OpenBlock}
use Rattle.pp_macros.specs.inner.Turns.{as_pause, frame_move, Moves, masks}
use Rattle.pp_macros.specs.inner.Reading.{unpainted_step, painted_step}
use Rattle.pp_macros.specs.inner.Work.{most_reads, reads_around, steps_left, is_end}
use Rattle.pp_macros.specs.declared.step.PlacedExit.TheVariants.{Error, Continue, Finished}
use Rattle.pp_macros.proofs.open_frames.AdvanceLemmas.{Advances, advance_lowers, some_steps_left}
use Rattle.pp_macros.proofs.work.FinishedLemmas.{finished_ends}
use Rattle.pp_macros.proofs.work.IterateLemmas.{IsLevel, iterate_more, iterate_steep}
use Rattle.pp_macros.proofs.work.ReachLemmas.{grown_up, grown_some, grown_steep, through_steep}
use Rattle.pp_macros.proofs.work.IterateLemmas.{steep_is_level}
use Rattle.pp_macros.proofs.work.ShrinkLemmas.{Shrinks, source_shrinks}
use Rattle.pp_macros.proofs.open_frames.ReportedLemmas.{taken_reported, painted_reported}
use Rattle.pp_lexer.specs.declared.token.Integer.{Integer}

-- one step more is one more of all
pub total_one_more : (regions : List ℕ) → total (one_more regions) ≡ suc (total regions)
total_one_more [] = omega arith
total_one_more (s ∷ regions) = omega arith

-- no more is left of the regions, however much is at hand
pub record IsNoMore (frame : ℕ → ℕ) (names : ℕ) (before after : List ℕ) : Type 0 where
  pub number : (c : ℕ) → through frame names after c ≤ through frame names before c
  pub least : total after ≤ total before

-- less is left
pub record Falls (frame : ℕ → ℕ) (names : ℕ) (before after : List ℕ) : Type 0 where
  pub number : (c : ℕ) → through frame names after c < through frame names before c
  pub least : total after < total before

-- a step is taken: a pause, or something for which there is room
abbrev pub Spends : (ℕ → ℕ) → ℕ → PlacedStep Read → List ℕ → List ℕ → Type 0
Spends frame names (Err Continue) before after = Falls frame names before after
Spends frame names (Err Finished) before after = after ≡ before
Spends frame names (Err (Error fault)) before after = IsNoMore frame names before (one_more after)
Spends frame names (Ok read) before after = IsNoMore frame names before (one_more after)

-- the reader's limits become no wider
pub record Tightens (r s : Reader) : Type 0 where
  pub names : most_open s ≤ most_open r
  pub bodies : most_bodies s ≤ most_bodies r

pub tightens_not : (r : Reader) → Tightens r r
tightens_not r = record { names = omega arith; bodies = omega arith }

pub tightens_then : (r s t : Reader) → Tightens r s → Tightens s t → Tightens r t
tightens_then r s t h k = record { names = omega (arith, h.names, k.names); bodies = omega (arith, h.bodies, k.bodies) }

-- a source at its end stays as it is
end_stays : (block : Option OpenBlock) (old new : Source) → Ends block old (Err Finished) new → new ≡ old
end_stays None old new h = h.1
end_stays (Some block) old new h = let e = h.0 in cc

effect_stays : (effect : Effect) (taken : ℕ) (note : Note) (change : BlockChange) (old new : Source)
    → HasEffect effect taken note change old (Err Finished) new → new ≡ old
effect_stays ends taken note change old new h = end_stays (last_block old.blocks) old new h
effect_stays (gives token) taken note change old new h = let e = h.0 in cc
effect_stays (gives_item item word) taken note change old new h = let e = h.0 in cc
effect_stays (asks line) taken note change old new h = let e = h.0 in cc
effect_stays (fails fault) taken note change old new h = let e = h.0 in cc
effect_stays passes taken note change old new h = let e = h.0 in cc
effect_stays (defines named) taken note change old new h = absurd (let bad = finished_ends (defines named) taken note change old new h in cc)
effect_stays (undefines name) taken note change old new h = let e = h.0 in cc
effect_stays (tests asked name) taken note change old new h = let e = h.0 in cc
effect_stays (decides word tokens) taken note change old new h = absurd (let bad = finished_ends (decides word tokens) taken note change old new h in cc)
effect_stays (renumbers word tokens) taken note change old new h = absurd (let bad = finished_ends (renumbers word tokens) taken note change old new h in cc)

pub source_end_stays : (old new : Source) → StepsSource old (Err Finished) new → new ≡ old
source_end_stays old new h = go old.spent h
  where
    go : (b : Bool) → MatchBool b ((◌≡◌ {A = PlacedStep Token} (Err Finished) (Err Finished)) × (new ≡ old))
        (IsRefusedStep old (Err Finished) ⊎ MakesMove old (Err Finished) new) → new ≡ old
    go true h = h.1
    go false (inl h) = let bad = h.fault in cc
    go false (inr h) =
        let move = move_of old.rules old.dead_for_good old.blocks old.rest in
        effect_stays move.effect move.taken (note_of old.dead_for_good old.blocks old.rest) (block_change_at (sight_of old.rest)) old new h

-- what a step of a reader leaves: less, but at the end
abbrev pub ReadSpends : PlacedStep Read → Reader → Reader → Type 0
ReadSpends (Err Finished) r s = s ≡ r
ReadSpends _ r s = reads_left s < reads_left r

shrinks_tightens : (old new : Source) → Shrinks old new → Tightens (of_source old) (of_source new)
shrinks_tightens old new h = record { names = omega (arith, h.names); bodies = omega (arith, h.steps) }

pub record IsRead (step : PlacedStep Read) (r s : Reader) : Type 0 where
  pub spends : ReadSpends step r s
  pub tightens : Tightens r s

source_read : (step : PlacedStep Token) (old new : Source) → StepsSource old step new → wants_memory step ≡ false
    → IsRead (unpainted_step old.text step) (of_source old) (of_source new)
source_read (Ok token) old new h reported = let k = source_shrinks old new (Ok token) h refl in record {
  spends = k.shorter;
  tightens = shrinks_tightens old new k;
}
source_read (Err Continue) old new h reported = let k = source_shrinks old new (Err Continue) h refl in record {
  spends = k.shorter;
  tightens = shrinks_tightens old new k;
}
source_read (Err Finished) old new h reported = rw (source_end_stays old new h) (record { spends = refl; tightens = tightens_not (of_source old) })
source_read (Err (Error fault)) old new h reported = let k =
    source_shrinks old new (Err (Error fault)) h (rw reported refl) in record { spends = k.shorter; tightens = shrinks_tightens old new k }

list_read : (tokens : List Read) (step : PlacedStep Read) (old new : Listing) → old.tokens ≡ tokens → step ≡ listed_step tokens
    → new ≡ record old { tokens = after_listed tokens } → IsRead step (of_list old) (of_list new)
list_read [] step old new e is at =
    let same : new ≡ old = at ∙ ap (λ (t : List Read). record old { tokens = t }) (sym e) in
    rw (is, same) (record { spends = refl; tightens = tightens_not (of_list old) })
list_read (read ∷ tokens) step old new e is at =
    let less : length new.tokens < length old.tokens = omega (arith, ap (λ (l : Listing). length l.tokens) at, ap length e) in
    let same : new.definitions ≡ old.definitions = ap (λ (l : Listing). l.definitions) at in
    rw is (record { spends = less; tightens = record { names = omega (arith, ap length same); bodies = omega (arith, ap body_tokens same) } })

-- behind an included text less is left
leaves_read : (old : Source) (outer : SuspendedText) (around : List SuspendedText) → IsTextOver old → old.around ≡ outer ∷ around
    → IsRead (Err Continue) (of_source old) (of_source (resumed outer around old))
leaves_read old outer around over at =
    let left : most_reads old ≡ reads_around (outer ∷ around) = omega (arith, ap length over.rest, ap length over.blocks, ap reads_around at) in
    record { spends = omega (arith, left); tightens = record { names = omega (arith, left); bodies = omega (arith, left) } }

pub reader_read : (step : PlacedStep Read) (r s : Reader) → Reads r step s → wants_memory step ≡ false → IsRead step r s
reader_read step (of_source old) (of_source new) (reader.leaves outer around over at is same) reported =
    rw (is, same) (leaves_read old outer around over at)
reader_read step (of_source old) (of_source new) (reader.reads given steps tells last is) reported =
    rw is (source_read given old new steps (given_quiet given (rw is at reported)))
  where
    given_quiet : (given : PlacedStep Token) → wants_memory (unpainted_step old.text given) ≡ false → wants_memory given ≡ false
    given_quiet (Ok token) e = refl
    given_quiet (Err exit) e = e
reader_read step (of_list old) (of_list new) (inl h) reported = list_read old.tokens step old new refl h.0 h.1
reader_read step (of_list old) (of_list new) (inr h) reported = absurd (let bad : true ≡ false = rw h at reported in cc)
reader_read step (of_source old) (of_list new) h reported = absurd h
reader_read step (of_list old) (of_source new) h reported = absurd h

module _ (frame : ℕ → ℕ) (names : ℕ) (level : IsLevel frame) where
  pub one_more_falls : (regions : List ℕ) → Falls frame names (one_more regions) regions
  one_more_falls [] = record { number = λ c. grown_some frame (names - 0) c; least = omega arith }
  one_more_falls (s ∷ regions) = record {
    number = λ c.
        let f = growth frame (names - length regions) in
        through_steep frame names regions level (iterate f s c) (iterate f s (f c))
        (iterate_steep f s (grown_steep frame (names - length regions) level) c (f c) (grown_some frame (names - length regions) c));
    least = omega arith;
  }

  pub no_more_falls : (before between after : List ℕ) → IsNoMore frame names before between → Falls frame names between after → Falls frame names before after
  no_more_falls before between after h k = record { number = λ c. lt_of_lt_of_le (k.number c) (h.number c); least = omega (arith, h.least, k.least) }

  pub falls_no_more : (before between after : List ℕ) → Falls frame names before between → IsNoMore frame names between after → Falls frame names before after
  falls_no_more before between after h k = record { number = λ c. lt_of_le_of_lt (k.number c) (h.number c); least = omega (arith, h.least, k.least) }

  pub falls_at_most : (before after : List ℕ) → Falls frame names before after → IsNoMore frame names before after
  falls_at_most before after h = record { number = λ c. let k = h.number c in omega arith; least = omega (arith, h.least) }

  pub no_more_then : (before between after : List ℕ) → IsNoMore frame names before between → IsNoMore frame names between after
      → IsNoMore frame names before after
  no_more_then before between after h k = record { number = λ c. le_trans (k.number c) (h.number c); least = omega (arith, h.least, k.least) }

  pub no_more : (regions : List ℕ) → IsNoMore frame names regions regions
  no_more regions = record { number = λ c. omega arith; least = omega arith }

  -- fewer steps in the innermost region
  pub less_here : (s t : ℕ) (regions : List ℕ) → t < s → IsNoMore frame names (s ∷ regions) (one_more (t ∷ regions))
  less_here s t regions less = record {
    number = λ c. steep_is_level (through frame names regions) (through_steep frame names regions level) _ _
        (iterate_more (growth frame (names - length regions)) (suc t) s c (grown_up frame (names - length regions)) less);
    least = omega arith;
  }

  -- the innermost region is over
  pub over_here : (s : ℕ) (regions : List ℕ) → 0 < s → Falls frame names (s ∷ regions) regions
  over_here s regions some = record {
    number = λ c.
        let f = growth frame (names - length regions) in
        let once : iterate f 1 c ≤ iterate f s c = iterate_more f 1 s c (grown_up frame (names - length regions)) some in
        through_steep frame names regions level c (iterate f s c) (lt_of_lt_of_le (grown_some frame (names - length regions) c) once);
    least = omega arith;
  }

  room_spends : (step : PlacedStep Read) (before after : List ℕ) → IsNoMore frame names before (one_more after) → is_end step ≡ false
      → Spends frame names step before after
  room_spends (Ok read) before after h goes = h
  room_spends (Err Continue) before after h goes = no_more_falls before (one_more after) after h (one_more_falls after)
  room_spends (Err Finished) before after h goes = cc
  room_spends (Err (Error fault)) before after h goes = h

  -- a step of the frames
  frame_spends : (f : Frame) (fs : List Frame) (reads : ℕ) (o : Option Advance) → IfSome o (Advances f)
      → Spends frame names (frame_move fs o).gives (regions_of (f ∷ fs) reads) (regions_of (frame_move fs o).after reads)
  frame_spends f fs reads None h = over_here (steps_left f) (regions_of fs reads) (some_steps_left f)
  frame_spends f fs reads (Some a) h =
      room_spends (as_pause a.gives) (regions_of (f ∷ fs) reads) (regions_of (a.after ∷ fs) reads)
      (less_here (steps_left f) (steps_left a.after) (regions_of fs reads) h.lower) (pause_goes a.gives)
    where
      pause_goes : (o : Option Read) → is_end (as_pause o) ≡ false
      pause_goes None = refl
      pause_goes (Some read) = refl

  read_spends : (step : PlacedStep Read) (r s : Reader) → ReadSpends step r s → Spends frame names step (reads_left r ∷ []) (reads_left s ∷ [])
  read_spends (Ok read) r s h = less_here (reads_left r) (reads_left s) [] h
  read_spends (Err Continue) r s h = room_spends (Err Continue) (reads_left r ∷ []) (reads_left s ∷ []) (less_here (reads_left r) (reads_left s) [] h) refl
  read_spends (Err Finished) r s h = ap (λ t. reads_left t ∷ []) h
  read_spends (Err (Error fault)) r s h = less_here (reads_left r) (reads_left s) [] h

  -- a step of the frames or the reader
  record IsMoved (move : PlacedStep Read) (fs gs : List Frame) (r s : Reader) : Type 0 where
    spends : Spends frame names move (regions_of fs (reads_left r)) (regions_of gs (reads_left s))
    tightens : Tightens r s

  moves_spend : (move : PlacedStep Read) (fs gs : List Frame) (r s : Reader) → Moves fs r move gs s → wants_memory move ≡ false → IsMoved move fs gs r s
  moves_spend move [] gs r s h reported =
      let read = reader_read move r s h.1 reported in
      rw h.0 (record { spends = read_spends move r s read.spends; tightens = read.tightens })
  moves_spend move (f ∷ fs) gs r s (same, inl h) reported =
      rw (same, h.0, h.1) (record { spends = frame_spends f fs (reads_left r) (advance f) (advance_lowers f); tightens = tightens_not r })
  moves_spend move (f ∷ fs) gs r s (same, inr h) reported = absurd (let bad : true ≡ false = rw h at reported in cc)

  taken_spends : (move : PlacedStep Read) (fs : List Frame) (r : Reader) (before after : List ℕ) → Spends frame names move before after
      → Spends frame names (taken_as move fs r) before after
  taken_spends (Ok read) fs r before after h = go (is_identifier line_name read.token.value) (shown_line r
      (unwrap_or (outermost_frame_line fs) read.token.location.line))
    where
      go : (b : Bool) (o : Option Integer) → Spends frame names (step_of_outcome (if b then line_number (place_of read) o else given.Token read)) before after
      go true (Some n) = h
      go true None = h
      go false o = h
  taken_spends (Err exit) fs r before after h = h

  held_spends : (step : PlacedStep Read) (before : List ℕ) → Spends frame names step (holding_step (Some step) before) before
  held_spends (Ok read) before = no_more (one_more before)
  held_spends (Err Continue) before = one_more_falls before
  held_spends (Err Finished) before = refl
  held_spends (Err (Error fault)) before = no_more (one_more before)

  pub record IsTaken (step : PlacedStep Read) (m n : Expander) (r s : Reader) : Type 0 where
    pub spends : Spends frame names step (regions m r) (regions n s)
    pub tightens : Tightens r s
    pub free : n.held ≡ None

  fetch_spends : (step : PlacedStep Read) (m n : Expander) (r s : Reader) → StepsFetching m r step n s → wants_memory step ≡ false → IsTaken step m n r s
  fetch_spends step m n r s (held step1 m1 n1 r1 s1 is at same) reported =
      rw (is, at, same) (record { spends = held_spends step (regions_of m.frames (reads_left r)); tightens = tightens_not r; free = refl })
  fetch_spends step m n r s (moved move step1 m1 n1 r1 s1 free moves is none) reported =
      let quiet : wants_memory move ≡ false = taken_reported move n.frames s (rw is at reported) in
      let h = moves_spend move m.frames n.frames r s moves quiet in
      let spends = taken_spends move n.frames s (regions_of m.frames (reads_left r)) (regions_of n.frames (reads_left s)) h.spends in
      record { spends = rw (is, free, none) spends; tightens = h.tightens; free = none }

  -- paint costs nothing
  painted_spends : (names_open : List Name) (first : PlacedStep Read) (before after : List ℕ) → Spends frame names first before after
      → Spends frame names (painted_step names_open first) before after
  painted_spends names_open (Ok read) before after h = h
  painted_spends names_open (Err Continue) before after h = h
  painted_spends names_open (Err Finished) before after h = h
  painted_spends names_open (Err (Error fault)) before after h = h

  pub step_spends : (step : PlacedStep Read) (m n : Expander) (r s : Reader) → StepsTaking m r step n s → wants_memory step ≡ false → IsTaken step m n r s
  step_spends step m n r s steps reported =
      let h = fetch_spends steps.first m n r s steps.fetches (painted_reported (masks n.frames s) steps.first (rw steps.paints at reported)) in
      record {
        spends = rw steps.paints (painted_spends (masks n.frames s) steps.first (regions m r) (regions n s) h.spends);
        tightens = h.tightens;
        free = h.free;
      }

  -- what was taken may be held
  pub record IsTakenOn (step : PlacedStep Read) (m n : Expander) (r s : Reader) : Type 0 where
    pub spends : IsNoMore frame names (regions m r) (regions (record n { held = Some step }) s)
    pub tightens : Tightens r s
    pub free : n.held ≡ None

  on_spends : (step : PlacedStep Read) (before after : List ℕ) → Spends frame names step before after → is_pause step ≡ false
      → IsNoMore frame names before (holding_step (Some step) after)
  on_spends (Ok read) before after h goes = h
  on_spends (Err Continue) before after h goes = cc
  on_spends (Err Finished) before after h goes = rw h (no_more before)
  on_spends (Err (Error fault)) before after h goes = h

  pub next_spends : (step : PlacedStep Read) (m n : Expander) (r s : Reader) → TakesNext m r step n s → wants_memory step ≡ false → IsTakenOn step m n r s
  next_spends step m n r s (now step1 m1 n1 r1 s1 steps goes) reported =
      let h = step_spends step m n r s steps reported in
      let same : regions n s ≡ regions_of n.frames (reads_left s) = ap (λ o. holding_step o (regions_of n.frames (reads_left s))) h.free in
      record { spends = on_spends step (regions m r) (regions_of n.frames (reads_left s)) (rw same at h.spends) goes; tightens = h.tightens; free = h.free }
  next_spends step m n r s (later step1 m1 between n1 r1 s1 t1 steps next) reported =
      let h = step_spends (Err Continue) m between r s1 steps refl in
      let k = next_spends step between n s1 s next reported in
      record {
        spends = no_more_then (regions m r) (regions between s1) (regions (record n { held = Some step }) s)
            (falls_at_most (regions m r) (regions between s1) h.spends) k.spends;
        tightens = tightens_then r s1 s h.tightens k.tightens;
        free = k.free;
      }

  -- after the `)` there is room for a frame, and each token that was gathered took a step
  pub record IsGathered (g : Gathered) (m n : Expander) (r s : Reader) : Type 0 where
    pub spends : IsNoMore frame names (regions m r) (one_more (regions n s))
    pub least : length g.tokens + total (one_more (regions n s)) ≤ total (regions m r)
    pub tightens : Tightens r s
    pub free : n.held ≡ None

  token_leaves : (read : Read) (m n : Expander) (r s : Reader) → TakesNext m r (Ok read) n s
      → IsGathered (record { tokens = []; closing = read.token.location }) m n r s
  token_leaves read m n r s next =
      let h = next_spends (Ok read) m n r s next refl in
      let same : regions n s ≡ regions_of n.frames (reads_left s) = ap (λ o. holding_step o (regions_of n.frames (reads_left s))) h.free in
      let least : total (one_more (regions n s)) ≤ total (regions m r) = rw same (h.spends.least) in
      record { spends = rw same h.spends; least = omega (arith, least); tightens = h.tightens; free = h.free }

  pub gather_leaves : (l : ℕ) (last : Place) (m n : Expander) (r s : Reader) (o : Result Gathered PlacedFault) → GathersNext l last m r o n s
      → IfOk o (λ g. IsGathered g m n r s)
  gather_leaves l last m n r s o (closed l1 last1 read m1 n1 r1 s1 g next out is) = rw is (token_leaves read m n r s next)
  gather_leaves l last m n r s o (inside l1 k last1 read m1 between n1 r1 s1 t1 rest g next in_call more is) =
      let first = token_leaves read m between r s1 next in
      let later = gather_leaves k (place_of read) between n s1 s rest more in
      rw is (go rest later first)
    where
      go : (rest : Result Gathered PlacedFault) → IfOk rest (λ g. IsGathered g between n s1 s)
          → IsGathered (record { tokens = []; closing = read.token.location }) m between r s1 → IfOk (before read rest) (λ g. IsGathered g m n r s)
      go (Err fault) h k = tt
      go (Ok g) h k = record {
        spends = no_more_then (regions m r) (regions between s1) (one_more (regions n s))
            (falls_at_most (regions m r) (regions between s1)
            (no_more_falls (regions m r) (one_more (regions between s1)) (regions between s1) k.spends (one_more_falls (regions between s1)))) h.spends;
        least = omega (arith, k.least, h.least, total_one_more (regions between s1));
        tightens = tightens_then r s1 s k.tightens h.tightens;
        free = h.free;
      }
  gather_leaves l last m n r s o (overfull l1 last1 read m1 n1 r1 s1 g next out is) = rw is tt
  gather_leaves l last m n r s o (ended l1 last1 m1 n1 r1 s1 g next is) = rw is tt
  gather_leaves l last m n r s o (failed l1 last1 fault m1 n1 r1 s1 g next reported is) = rw is tt

  -- no more is left after what comes next, and after a search, however it ends
  pub record IsLeft (m n : Expander) (r s : Reader) : Type 0 where
    pub spends : IsNoMore frame names (regions m r) (regions n s)
    pub tightens : Tightens r s

  holding_no_more : (step : PlacedStep Read) (xs : List ℕ) → IsNoMore frame names (holding_step (Some step) xs) xs
  holding_no_more (Ok read) xs = falls_at_most (one_more xs) xs (one_more_falls xs)
  holding_no_more (Err Continue) xs = falls_at_most (one_more xs) xs (one_more_falls xs)
  holding_no_more (Err Finished) xs = no_more xs
  holding_no_more (Err (Error fault)) xs = falls_at_most (one_more xs) xs (one_more_falls xs)

  pub next_left : (step : PlacedStep Read) (m n : Expander) (r s : Reader) → TakesNext m r step n s → wants_memory step ≡ false → IsLeft m n r s
  next_left step m n r s next reported =
      let h = next_spends step m n r s next reported in
      let xs = regions_of n.frames (reads_left s) in
      let same : regions n s ≡ xs = ap (λ o. holding_step o xs) h.free in
      record { spends = rw same (no_more_then (regions m r) (holding_step (Some step) xs) xs h.spends (holding_no_more step xs)); tightens = h.tightens }

  pub gather_left : (l : ℕ) (last : Place) (m n : Expander) (r s : Reader) (o : Result Gathered PlacedFault) → GathersNext l last m r o n s → IsLeft m n r s
  gather_left l last m n r s o (closed l1 last1 read m1 n1 r1 s1 g next out is) = next_left (Ok read) m n r s next refl
  gather_left l last m n r s o (inside l1 k last1 read m1 between n1 r1 s1 t1 rest g next in_call more is) =
      let h = next_left (Ok read) m between r s1 next refl in
      let j = gather_left k (place_of read) between n s1 s rest more in
      record { spends = no_more_then (regions m r) (regions between s1) (regions n s) h.spends j.spends; tightens = tightens_then r s1 s h.tightens j.tightens }
  gather_left l last m n r s o (overfull l1 last1 read m1 n1 r1 s1 g next out is) = next_left (Ok read) m n r s next refl
  gather_left l last m n r s o (ended l1 last1 m1 n1 r1 s1 g next is) = next_left (Err Finished) m n r s next refl
  gather_left l last m n r s o (failed l1 last1 fault m1 n1 r1 s1 g next reported is) = next_left (Err (Error fault)) m n r s next reported
