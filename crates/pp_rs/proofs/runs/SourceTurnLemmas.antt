-- A turn over a source, after which a call is finished: what holds after it, how much is left, and what it means for
-- the definitions' expander.
use Rattle.std.proofs.Common.{◌≡◌, ◌∙◌, ◌⊎◌, inl, inr, ℕ, zero, suc, ◌-◌, ◌<◌, ◌≤◌, true, false, List, [], ◌∷◌, ◌++◌, length, refl, ap, sym, subst, arith, Option, None, Ok, Err, All}
use Rattle.pp_lexer.specs.declared.rules.Rules.{Rules}
use Rattle.pp_model.specs.Calls.{Site, site_of}
use Rattle.pp_model.specs.Emitting.{answers_at}
use Rattle.pp_model.proofs.calls.LevelLemmas.{none_at_limit}
use Rattle.pp_model.specs.Names.{Name}
use Rattle.pp_model.specs.Reading.{Expander, masked_names}
use Rattle.pp_model.specs.Onward.{Onward}
use Rattle.pp_model.specs.SpliceList.{open_names, macro_before, outermost_call}
use Rattle.pp_model.specs.declared.read.Read.{Read}
use Rattle.pp_model.specs.declared.splice.Entry.{Entry}
use Rattle.pp_macros.specs.inner.Calling.{MacroCall}
use Rattle.pp_macros.specs.inner.CallTurns.{TurnsTo, TurnsOrRefuses, TakesSomething}
use Rattle.pp_macros.specs.inner.Defined.{Defined}
use Rattle.pp_macros.specs.inner.Finishing.{site_at, Finishes, IsOpened}
use Rattle.pp_rs.specs.inner.Fit.{EndIsLast, IsFit, HoldsAsking}
use Rattle.pp_macros.specs.inner.Frames.{new_frame, flat, names_of, outermost_frame_call}
use Rattle.pp_macros.specs.Halting.{exit_of}
use Rattle.pp_macros.specs.Item.{PlacedStep, wants_memory, no_memory}
use Rattle.pp_macros.specs.inner.Left.{work_of, most_alone, most_bodies, most_open, reads_left, regions, regions_of, one_more, holding_step, IsSound}
use Rattle.pp_macros.specs.inner.Expander as kept
use Rattle.pp_macros.specs.inner.Reader.{of_source}
use Rattle.pp_rs.specs.Comes.{source_rules}
use Rattle.pp_macros.specs.inner.Source.{Source}
use Rattle.pp_rs.specs.inner.SourceTurns.{FollowsCall, opened, refused, FollowsTurn, TurnsSource, StepsOver}
use Rattle.pp_rs.specs.inner.Stands.{StandsForReader, StandsFor}
use Rattle.pp_macros.specs.declared.calls.Taken.{Taken}
use Rattle.pp_macros.specs.declared.calls.Taken.TheVariants as taken
use Rattle.pp_macros.specs.declared.halt.PlacedHalt.{PlacedHalt}
use Rattle.pp_macros.specs.declared.halt.PlacedHalt.TheVariants as halt
use Rattle.pp_macros.specs.declared.step.PlacedExit.{PlacedExit}
use Rattle.pp_macros.specs.declared.step.PlacedExit.TheVariants.{Error, Continue, Finished}
use Rattle.pp_macros.proofs.work.CallFallsLemmas.{IsLess, IsPending, turn_falls, pending_opens}
use Rattle.pp_macros.proofs.open_frames.FlatLemmas.{open_flat, outermost_flat}
use Rattle.pp_rs.proofs.runs.Leads.{LeadsFrom, Leads}
use Rattle.pp_macros.proofs.open_frames.OpenSoundLemmas.{sound_rest}
use Rattle.pp_macros.proofs.open_frames.ReportedLemmas.{wants_taken}
use Rattle.pp_macros.proofs.work.ReachLemmas.{frame_steps_level}
use Rattle.pp_rs.proofs.runs.AsksLemmas.{turn_asks}
use Rattle.pp_rs.proofs.runs.ReadyLemmas.{turn_ready, turn_last, turn_end, turn_some}
use Rattle.pp_macros.proofs.taking.SearchSimulates.{StandsIn}
use Rattle.pp_rs.proofs.source.EndSimulates.{remembers}
use Rattle.pp_rs.proofs.runs.SourceLeadsLemmas.{IsSource, sources_simulate, source_shows, source_hides, source_sees, source_leads}
use Rattle.pp_macros.proofs.work.SpendLemmas.{Falls, no_more_falls, one_more_falls}
use Rattle.pp_model.specs.Emitting.{Emits}
use Rattle.pp_model.specs.Places.{PlacedFault, fault_in}
use Rattle.pp_model.specs.ItemCall.{item_call}
use Rattle.pp_model.specs.declared.read.Taken.TheVariants as given
use Rattle.pp_model.specs.declared.splice.CallPlace.{CallPlace}
use Rattle.pp_macros.proofs.taking.TurnLeadsLemmas.{LeadsTo, calls_same, free_call_same}
use Rattle.pp_macros.proofs.work.WorkFallsLemmas.{frame_of, falls_work}
use Rattle.pp_model.specs.Numbering.{list_numbering}
use Rattle.pp_model.specs.declared.numbering.Numbering.{Numbering}

-- what follows of a call that is not finished, unless memory is refused
pub follows_halt : (levels l : ℕ) (source : Source) (numbering : Numbering) (definitions : List Defined) (hidden : List Name) (c : MacroCall)
    (m n : kept.Expander) (h : PlacedHalt) (step : PlacedStep Read) → l ≡ levels → numbering ≡ list_numbering source.rules source.line_offset
    → definitions ≡ source.definitions → hidden ≡ [] → Finishes l numbering definitions hidden c m (Err h) n → step ≡ Err (exit_of h)
    → FollowsCall levels source c m step n ⊎ (step ≡ Err (Error no_memory))
follows_halt levels l source numbering definitions hidden c m n (halt.Fault fault) step e counts d none f is =
    inl (refused fault is (rw (e, counts, d, none) at f.0) f.1)
follows_halt levels l source numbering definitions hidden c m n halt.OutOfMemory step e counts d none f is = inr is

-- the turns of the code
module _ (levels : ℕ) (m n : kept.Expander) (r s : Source) where
  pub goes_token : (read : Read) → TurnsOrRefuses m (of_source r) (Ok (taken.Token read)) n (of_source s) → StepsOver levels m r (Ok read) n s
  goes_token read (inl h) = inl (record { taken = Ok (taken.Token read); between = n; turns = h; follows = (refl, refl) })
  goes_token read (inr h) = let bad = h.fault in cc

  exit_as : (exit : PlacedExit) (step : PlacedStep Read) → ◌≡◌ {A = PlacedStep Taken} (Err exit) (Err (Error no_memory)) → step ≡ Err exit
      → step ≡ Err (Error no_memory)
  exit_as exit step e is = cc

  pub goes_exit : (exit : PlacedExit) (step : PlacedStep Read) → TurnsOrRefuses m (of_source r) (Err exit) n (of_source s) → step ≡ Err exit
      → StepsOver levels m r step n s
  goes_exit exit step (inl h) is = inl (record { taken = Err exit; between = n; turns = h; follows = (is, refl) })
  goes_exit exit step (inr h) is = inr (record { some = h.some; fault = exit_as exit step h.fault is })

  -- a call that is finished at once, unless memory is refused
  pub goes_follow : (c : MacroCall) (p : kept.Expander) (step : PlacedStep Read) → TurnsOrRefuses m (of_source r) (Ok (taken.Call c)) n (of_source s)
      → FollowsCall levels s c n step p ⊎ (step ≡ Err (Error no_memory)) → StepsOver levels m r step p s
  goes_follow c p step (inr t) f = let bad = t.fault in cc
  goes_follow c p step (inl t) (inl f) = inl (record { taken = Ok (taken.Call c); between = n; turns = t; follows = f })
  goes_follow c p step (inl t) (inr is) =
      inr (record { some = turn_some m n (of_source r) (of_source s) (Ok (taken.Call c)) t (λ e. cc); fault = is })

  -- but for the end, something was taken
  pub source_some : (step : PlacedStep Read) → TurnsSource levels m r step n s → (step ≡ Err Finished → ⊥) → TakesSomething m (of_source r)
  source_some step h goes = turn_some m h.between (of_source r) (of_source s) h.taken h.turns (λ e. goes (ends h.taken e h.follows))
    where
      ends : (t : PlacedStep Taken) → t ≡ Err Finished → FollowsTurn levels s t h.between step n → step ≡ Err Finished
      ends (Ok token) e follows = cc
      ends (Err exit) e follows = let is = follows.0 in cc

  pub turned_source : (step : PlacedStep Read) → StepsOver levels m r step n s → wants_memory step ≡ false → TurnsSource levels m r step n s
  turned_source step (inl h) reported = h
  turned_source step (inr h) reported = absurd (let bad : true ≡ false = rw h.fault at reported in cc)

-- what holds after a turn: less is left, but at the end
record IsAfter (levels : ℕ) (m : kept.Expander) (old : Source) (step : PlacedStep Read) (n : kept.Expander) (new : Source) : Type 0 where
  less : (step ≡ Err Finished → ⊥) → work_of levels n (of_source new) < work_of levels m (of_source old)
  sound : IsSound n (of_source new)
  last : EndIsLast n.held n.frames (of_source new)

module _ (levels : ℕ) (m : kept.Expander) (old new : Source) (fit : IsFit m old) where
  free_last : (o : Option (PlacedStep Read)) (n : kept.Expander) → o ≡ None → EndIsLast o n.frames (of_source new)
  free_last o n e = rw e tt

  opened_less : (levels' : ℕ) → levels' ≡ levels → (c : MacroCall) (n p : kept.Expander) → IsPending levels' m (of_source old) c n (of_source new)
      → IsOpened levels' (list_numbering new.rules new.line_offset) new.definitions (names_of n.frames ++ []) c n p → IsLess levels' m (of_source old) p (of_source new)
  opened_less zero e c n p pend o = absurd (none_at_limit c.opened.definition (site_at c (list_numbering new.rules new.line_offset) new.definitions (names_of n.frames ++ [])) o.arguments o.answers)
  opened_less (suc lower) e c n p pend o =
      let one : suc lower - 1 ≡ lower = omega arith in
      let least : All (λ (a : List Read). length a ≤ most_alone lower new.definitions (length c.tokens)) o.arguments = rw (← one) o.least in
      let at : p ≡ record { held = None; frames = new_frame c.opened c.call o.arguments ∷ n.frames } = o.opens
      ∙ ap (λ (h : Option (PlacedStep Read)). record { held = h; frames = new_frame c.opened c.call o.arguments ∷ n.frames }) pend.free in
      rw at (pending_opens lower m (of_source old) c n (of_source new) o.arguments pend least)

  call_after : (c : MacroCall) (n p : kept.Expander) (step : PlacedStep Read) → IsPending levels m (of_source old) c n (of_source new)
      → FollowsCall levels new c n step p → IsAfter levels m old step p new
  call_after c n p step pend (opened is o) =
      let less = opened_less levels refl c n p pend o in
      record { less = λ goes. less.falls; sound = less.sound; last = free_last p.held p (ap (λ (x : kept.Expander). x.held) o.opens ∙ pend.free) }
  call_after c n p step pend (refused fault is answers same) =
      let r = of_source old in
      let s = of_source new in
      let level = frame_steps_level (most_bodies r) (most_open r) levels in
      let free : regions n s ≡ regions_of n.frames (reads_left s) = ap (λ o. holding_step o (regions_of n.frames (reads_left s))) pend.free in
      let falls : Falls (frame_of levels r) (most_open r) (regions m r) (regions n s) =
      rw free (no_more_falls (frame_of levels r) (most_open r) level (regions m r) (one_more (regions_of n.frames (reads_left s)))
      (regions_of n.frames (reads_left s)) pend.room (one_more_falls (frame_of levels r) (most_open r) level (regions_of n.frames (reads_left s)))) in
      rw same (record {
        less = λ goes. falls_work levels m n r s pend.tight falls;
        sound = record { names = sound_rest new.definitions c.opened.name (names_of n.frames) pend.sound.names; numbers = pend.sound.numbers.1 };
        last = free_last n.held n pend.free;
      })

  less_after : (step : PlacedStep Read) (n p : kept.Expander) → p ≡ n → EndIsLast n.held n.frames (of_source new)
      → IsLess levels m (of_source old) n (of_source new) → IsAfter levels m old step p new
  less_after step n p same last less = rw same (record { less = λ goes. less.falls; sound = less.sound; last = last })

  follows_after : (step : PlacedStep Read) (n p : kept.Expander) (t : PlacedStep Taken) → TurnsTo m (of_source old) t n (of_source new)
      → FollowsTurn levels new t n step p → wants_memory step ≡ false → IsAfter levels m old step p new
  follows_after step n p (Ok (taken.Call c)) turns follows reported =
      call_after c n p step (turn_falls levels m (of_source old) fit.sound (Ok (taken.Call c)) n (of_source new) turns refl) follows
  follows_after step n p (Err (Error fault)) turns follows reported =
      less_after step n p follows.1 (turn_last m n (of_source old) (of_source new) (Err (Error fault)) fit.unspent turns)
      (turn_falls levels m (of_source old) fit.sound (Err (Error fault)) n (of_source new) turns (rw follows.0 at reported))
  follows_after step n p (Err Finished) turns follows reported =
      let sound : IsSound n (of_source new) = turn_falls levels m (of_source old) fit.sound (Err Finished) n (of_source new) turns refl in
      rw follows.1 (record {
        less = λ goes. absurd (goes follows.0);
        sound = sound;
        last = turn_last m n (of_source old) (of_source new) (Err Finished) fit.unspent turns;
      })
  follows_after step n p t turns follows reported =
      less_after step n p follows.1 (turn_last m n (of_source old) (of_source new) t fit.unspent turns)
      (turn_falls levels m (of_source old) fit.sound t n (of_source new) turns refl)

  taken_reported : (step : PlacedStep Read) (n p : kept.Expander) (t : PlacedStep Taken) → FollowsTurn levels new t n step p → wants_memory step ≡ false
      → wants_taken t ≡ false
  taken_reported step n p (Err (Error fault)) follows reported = rw follows.0 at reported
  taken_reported step n p _ follows reported = refl

  module _ (step : PlacedStep Read) (n : kept.Expander) (h : TurnsSource levels m old step n new) (reported : wants_memory step ≡ false) where
    after : IsAfter levels m old step n new
    after = follows_after step h.between n h.taken h.turns h.follows reported

    pub source_fits : new.rules ≡ old.rules → IsFit n new
    source_fits same = record {
      unspent = turn_ready m h.between (of_source old) (of_source new) h.taken fit.unspent h.turns (taken_reported step h.between n h.taken h.follows reported);
      sound = after.sound;
      last = after.last;
      asks = subst (λ (rules : Rules). HoldsAsking rules n.held) (sym same) (turn_asks levels m n old new step fit.asks h).1;
    }

    pub source_lowers : (step ≡ Err Finished → ⊥) → work_of levels n (of_source new) < work_of levels m (of_source old)
    source_lowers goes = after.less goes

  -- after the end nothing is left
  pub source_ends : (n : kept.Expander) → TurnsSource levels m old (Err Finished) n new → (n.held ≡ None) × (n.frames ≡ []) × (new.rest ≡ []) × (new.blocks ≡ []) × (new.around ≡ [])
  source_ends n h = go h.taken h.between h.turns h.follows
    where
      go : (t : PlacedStep Taken) (k : kept.Expander) → TurnsTo m (of_source old) t k (of_source new) → FollowsTurn levels new t k (Err Finished) n
          → (n.held ≡ None) × (n.frames ≡ []) × (new.rest ≡ []) × (new.blocks ≡ []) × (new.around ≡ [])
      go (Ok (taken.Token read)) k turns follows = let bad = follows.0 in cc
      go (Ok (taken.Call c)) k turns (opened is o) = cc
      go (Ok (taken.Call c)) k turns (refused fault is answers same) = cc
      go (Err exit) k turns follows =
          let e : exit ≡ Finished = exit_same exit follows.0 in
          let last = turn_end m k (of_source old) (of_source new) (Err exit) (ap (λ (x : PlacedExit). Err x) e) fit.unspent fit.last turns in
          rw follows.1 (last.0, last.1, last.2.0, last.2.1, last.2.2)
        where
          exit_same : (exit : PlacedExit) → ◌≡◌ {A = PlacedStep Read} (Err Finished) (Err exit) → exit ≡ Finished
          exit_same exit e = cc

-- the states that are stood for, as the lemmas on all readers say it
stands_in : (m : kept.Expander) (source : Source) (e : Expander Onward) → StandsFor m source e → StandsIn source_rules IsSource [] m (of_source source) e
stands_in m source e h = record { holds = h.held; list = h.list; reader = h.reader; names = h.hidden; goes = h.goes }

stands_for : (m : kept.Expander) (source : Source) (e : Expander Onward) → StandsIn source_rules IsSource [] m (of_source source) e → StandsFor m source e
stands_for m source e h = record { held = h.holds; list = h.list; reader = h.reader; hidden = h.names; goes = h.goes }

-- where a call stands
site_same : (c : MacroCall) (n : kept.Expander) (source : Source) (f : Expander Onward) → StandsIn source_rules IsSource [] n (of_source source) f
    → site_of source_rules f c.paren c.tokens ≡ site_at c (list_numbering source.rules source.line_offset) source.definitions (names_of n.frames ++ [])
site_same c n source f stands =
    let reader : StandsForReader source f.reader.reader = stands.reader.reader in
    let around : masked_names f ≡ names_of n.frames ++ [] =
    ap (λ (es : List Entry). open_names es ++ f.hidden) stands.list ∙ ap (λ (hs : List Name). open_names (flat n.frames) ++ hs) stands.names
    ∙ ap (λ (ns : List Name). ns ++ []) (open_flat n.frames) in
    rw (reader.definitions, reader.rules, (remembers reader.here).line_offset, around) refl

module _ (levels : ℕ) (m : kept.Expander) (old new : Source) (fit : IsFit m old) (e : Expander Onward) (stands : StandsFor m old e) where
  abbrev LeadsBy : PlacedStep Taken → kept.Expander → Type 0
  LeadsBy t n = LeadsTo source_rules IsSource [] sources_simulate source_shows source_hides source_sees (answers_at levels) t e n (of_source new)

  -- a fault is in the call of the outermost frame
  fault_found : (fault : PlacedFault) (f : Expander Onward) (n : kept.Expander) → outermost_call f.list ≡ outermost_frame_call n.frames
      → (emits : Emits source_rules (answers_at levels) e (given.Fault (fault_in (outermost_call f.list) fault)) f)
      → item_call emits ≡ (fault_in (outermost_call f.list) fault).1.call → StandsFor n new f
      → LeadsFrom (answers_at levels) e (Err (Error fault)) (outermost_frame_call m.frames) n new
  fault_found fault f n same emits call stood =
      let Found : Option CallPlace → Type 0 = λ k. (emits : Emits source_rules (answers_at levels) e (given.Fault (fault_in k fault)) f)
      × (item_call emits ≡ (fault_in k fault).1.call) in
      let found : Found (outermost_frame_call n.frames) = subst Found same (emits, call) in
      (f, found.0, found.1, stood)

  call_leads : (c : MacroCall) (n p : kept.Expander) (step : PlacedStep Read) → LeadsBy (Ok (taken.Call c)) n
      → FollowsCall levels new c n step p → LeadsFrom (answers_at levels) e step (outermost_frame_call m.frames) p new
  call_leads c n p step led (opened is o) =
      let f : Expander Onward = record led.0 { list = macro_before c.opened.name c.opened.definition c.call o.arguments led.0.list } in
      let k = led.1 in
      rw is (
        f,
        subst (λ (q : kept.Expander). StandsFor q new f) (sym o.opens)
            (record {
              held = k.holds;
              list = ap (macro_before c.opened.name c.opened.definition c.call o.arguments) k.list;
              reader = k.reader;
              hidden = k.names;
              goes = k.goes;
            }),
        led.3 o.arguments (subst (λ (x : Site). answers_at levels c.opened.definition x (Ok o.arguments)) (sym (site_same c n new led.0 k)) o.answers),
      )
  call_leads c n p step led (refused fault is answers same) =
      let emitted = led.2 fault (subst (λ (x : Site). answers_at levels c.opened.definition x (Err fault)) (sym (site_same c n new led.0 led.1)) answers) in
      rw (is, same) (fault_found fault led.0 n (ap outermost_call led.1.list ∙ outermost_flat n.frames) emitted.0 emitted.1
      (stands_for n new led.0 led.1))

  follows_lead : (step : PlacedStep Read) (n p : kept.Expander) (t : PlacedStep Taken) → TurnsTo m (of_source old) t n (of_source new) → LeadsBy t n
      → FollowsTurn levels new t n step p → LeadsFrom (answers_at levels) e step (outermost_frame_call m.frames) p new
  follows_lead step n p (Ok (taken.Token read)) turns led follows =
      rw (follows.0, follows.1) (
        led.0,
        led.1,
        stands_for n new led.0 led.2,
        calls_same n.held e.list led.0.list m.frames n.frames stands.list led.2.list ∙ sym led.3,
      )
  follows_lead step n p (Ok (taken.Call c)) turns led follows =
      call_leads c n p step led follows
  follows_lead step n p (Err Continue) turns led follows = rw (follows.0, follows.1) (led.0, stands_for n new led.0 led.1, led.2)
  follows_lead step n p (Err Finished) turns led follows =
      rw (follows.0, follows.1) (
        led.0,
        led.1,
        stands_for n new led.0 led.2,
        free_call_same n.held (outermost_frame_call m.frames) n.frames led.3 led.0.list led.2.list ∙ sym led.4,
      )
  follows_lead step n p (Err (Error fault)) turns led follows =
      rw (follows.0, follows.1) (fault_found fault led.0 n (ap outermost_call led.2.list ∙ outermost_flat n.frames) led.1 led.3
      (stands_for n new led.0 led.2))

-- One turn: a token, a fault or the end is the next item, and a pause keeps it.
pub source_turn_leads : (levels : ℕ) (m n : kept.Expander) (old new : Source) (step : PlacedStep Read) → IsFit m old → TurnsSource levels m old step n new
    → wants_memory step ≡ false → Leads (answers_at levels) m old step (outermost_frame_call m.frames) n new
source_turn_leads levels m n old new step fit h reported = record {
  from = λ e stands.
      follows_lead levels m old new fit e stands step h.between n h.taken h.turns
      (source_leads (answers_at levels) m h.between (of_source old) (of_source new) h.taken e (stands_in m old e stands) h.turns
      (taken_reported levels m old new fit step h.between n h.taken h.follows reported))
      h.follows;
}
