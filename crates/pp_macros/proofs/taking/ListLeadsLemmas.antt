-- The expander over an argument is the definitions' expander of it.
use Rattle.std.proofs.Common.{◌≡◌, ◌∙◌, false, ℕ, ◌+◌, ◌<◌, ◌≤◌, arith, List, [], ◌∷◌, ◌++◌, length, length-append, refl, sym, ap, subst, None}
use Rattle.std.specs.Prelude.{Result, Ok, Err}
use Rattle.pp_model.specs.Places.{PlacedFault, fault_in}
use Rattle.pp_model.specs.declared.read.Read.{Read}
use Rattle.pp_model.specs.Names.{Name}
use Rattle.pp_model.specs.Reading.{Expander, Listed, argument_reading, reading_of}
use Rattle.pp_model.specs.Calls.{Site}
use Rattle.pp_model.specs.Emitting.{Emits, Alone, Collects, done, failed, item, answers_at}
use Rattle.pp_model.specs.inner.Emitting.{read_before}
use Rattle.pp_model.specs.SpliceList.{macro_before, outermost_call}
use Rattle.pp_model.specs.declared.read.Taken.{Taken as Given}
use Rattle.pp_model.specs.declared.read.Taken.TheVariants as given
use Rattle.pp_model.proofs.calls.CollectLemmas.{after_items, after_items-before, after_items-end}
use Rattle.pp_macros.specs.inner.Calling.{MacroCall}
use Rattle.pp_macros.specs.inner.CallTurns.{TurnsTo}
use Rattle.pp_macros.specs.inner.Defined.{Defined, meaning_of}
use Rattle.pp_macros.specs.inner.Finishing.{site_at, IsOpened}
use Rattle.pp_macros.specs.inner.Frames.{names_of, outermost_frame_call}
use Rattle.pp_macros.specs.Item.{is_out_of_memory}
use Rattle.pp_macros.specs.inner.Left.{work_of, most_alone, IsSound}
use Rattle.pp_macros.specs.inner.Expander as kept
use Rattle.pp_macros.specs.inner.Reader.{of_list, Listing}
use Rattle.pp_macros.specs.declared.calls.Taken.TheVariants as taken
use Rattle.pp_macros.specs.declared.step.PlacedExit.TheVariants.{Error, Continue, Finished}
use Rattle.pp_macros.proofs.work.CallFallsLemmas.{IsLess, IsPending, turn_falls}
use Rattle.pp_macros.proofs.open_frames.FlatLemmas.{outermost_flat}
use Rattle.pp_macros.proofs.taking.TurnLeadsLemmas.{LeadsTo}
use Rattle.pp_macros.proofs.work.WorkFallsLemmas.{start_work}
use Rattle.pp_macros.proofs.taking.ListedLeadsLemmas.{IsListed, list_simulates, list_shows, list_hides, list_sees, StandsListed, listed_leads, site_same, opened_less}
use Rattle.pp_model.specs.declared.numbering.Numbering.{Numbering}

-- What the loop over an argument has reached: the items so far, and a state from which the rest comes.
pub record Reached (levels : ℕ) (numbering : Numbering) (definitions : List Defined) (hidden : List Name) (tokens : List Read)
    (m : kept.Expander) (l : Listing) (items : List Read) : Type 0 where
  pub state : Expander Listed
  pub stands : StandsListed false numbering definitions hidden m l state
  pub sound : IsSound m (of_list l)
  pub goes_on : (out : Result (List Read) PlacedFault) → Collects argument_reading (answers_at levels) state out
      → Alone levels tokens numbering (meaning_of definitions) hidden (after_items items out)
  pub least : length items + work_of levels m (of_list l) ≤ most_alone levels definitions (length tokens)

pub reached_start : (levels : ℕ) (numbering : Numbering) (definitions : List Defined) (hidden : List Name) (tokens items : List Read) (m : kept.Expander) (l : Listing)
    → m ≡ record { held = None; frames = [] } → l ≡ record { tokens = tokens; numbering = numbering; definitions = definitions; hidden = hidden; is_line = false }
    → items ≡ [] → Reached levels numbering definitions hidden tokens m l items
reached_start levels numbering definitions hidden tokens items m l e f g =
    let start : Listing = record { tokens = tokens; numbering = numbering; definitions = definitions; hidden = hidden; is_line = false } in
    rw (e, f, g) (record {
      state = reading_of tokens numbering (meaning_of definitions) hidden;
      stands = record { holds = refl; list = refl; reader = (refl, refl, refl, refl, refl); names = refl; goes = λ pause. cc };
      sound = record { names = record { apart = tt; defined = tt }; numbers = tt };
      goes_on = λ out collects. rw (no_items out) collects;
      least = omega (arith, start_work levels start);
    })
  where
    no_items : (out : Result (List Read) PlacedFault) → after_items [] out ≡ out
    no_items (Ok rest) = refl
    no_items (Err fault) = refl

module _ (levels : ℕ) (numbering : Numbering) (definitions : List Defined) (hidden : List Name) (tokens : List Read) (m : kept.Expander) (l : Listing) (items : List Read)
    (r : Reached levels numbering definitions hidden tokens m l items) (n : kept.Expander) (k : Listing) where
  -- a token is one more item
  pub reached_token : (read : Read) (more : List Read) → TurnsTo m (of_list l) (Ok (taken.Token read)) n (of_list k) → more ≡ items ++ read ∷ []
      → Reached levels numbering definitions hidden tokens n k more
  reached_token read more turns is =
      let h = listed_leads false numbering definitions hidden (answers_at levels) m n l k (Ok (taken.Token read)) r.state r.stands turns refl in
      let f : IsLess levels m (of_list l) n (of_list k) = turn_falls levels m (of_list l) r.sound (Ok (taken.Token read)) n (of_list k) turns refl in
      rw is (record {
        state = h.0;
        stands = h.2;
        sound = f.sound;
        goes_on = λ out collects. rw (← after_items-before items read out)
            (r.goes_on (read_before read out) (item read out (read_before read out) r.state h.0 h.1 collects refl));
        least = omega (arith, r.least, f.falls, length-append items (read ∷ []));
      })

  pub token_less : (read : Read) → TurnsTo m (of_list l) (Ok (taken.Token read)) n (of_list k) → work_of levels n (of_list k) < work_of levels m (of_list l)
  token_less read turns = let f : IsLess levels m (of_list l) n (of_list k) =
      turn_falls levels m (of_list l) r.sound (Ok (taken.Token read)) n (of_list k) turns refl in f.falls

  emits_keeps : (e f : Expander Listed) → ((o : Given) (g : Expander Listed) → Emits argument_reading (answers_at levels) f o g
      → Emits argument_reading (answers_at levels) e o g) → (out : Result (List Read) PlacedFault) → Collects argument_reading (answers_at levels) f out
      → Collects argument_reading (answers_at levels) e out
  emits_keeps e f on out (done f1 g out1 emits is) = done e g out (on given.End g emits) is
  emits_keeps e f on out (failed fault f1 g out1 emits is) = failed fault e g out (on (given.Fault fault) g emits) is
  emits_keeps e f on out (item read rest out1 f1 g emits collects is) = item read rest out e g (on (given.Token read) g emits) collects is

  pub reached_pause : TurnsTo m (of_list l) (Err Continue) n (of_list k) → Reached levels numbering definitions hidden tokens n k items
  reached_pause turns =
      let h = listed_leads false numbering definitions hidden (answers_at levels) m n l k (Err Continue) r.state r.stands turns refl in
      let f : IsLess levels m (of_list l) n (of_list k) = turn_falls levels m (of_list l) r.sound (Err Continue) n (of_list k) turns refl in
      record {
        state = h.0;
        stands = h.1;
        sound = f.sound;
        goes_on = λ out collects. r.goes_on out (emits_keeps r.state h.0 (λ o g emits. (h.2 o g emits).0) out collects);
        least = omega (arith, r.least, f.falls);
      }

  pub pause_less : TurnsTo m (of_list l) (Err Continue) n (of_list k) → work_of levels n (of_list k) < work_of levels m (of_list l)
  pause_less turns = let f : IsLess levels m (of_list l) n (of_list k) =
      turn_falls levels m (of_list l) r.sound (Err Continue) n (of_list k) turns refl in f.falls

  -- the end
  pub reached_end : TurnsTo m (of_list l) (Err Finished) n (of_list k) → Alone levels tokens numbering (meaning_of definitions) hidden (Ok items)
  reached_end turns =
      let h = listed_leads false numbering definitions hidden (answers_at levels) m n l k (Err Finished) r.state r.stands turns refl in
      rw (← after_items-end items) (r.goes_on (Ok []) (done r.state h.0 (Ok []) h.1 refl))

  -- a fault
  pub reached_fault : (fault : PlacedFault) → TurnsTo m (of_list l) (Err (Error fault)) n (of_list k) → is_out_of_memory fault.0 ≡ false
      → Alone levels tokens numbering (meaning_of definitions) hidden (Err (fault_in (outermost_frame_call n.frames) fault))
  reached_fault fault turns reported =
      let h = listed_leads false numbering definitions hidden (answers_at levels) m n l k (Err (Error fault)) r.state r.stands turns reported in
      let same : outermost_call h.0.list ≡ outermost_frame_call n.frames = ap outermost_call h.2.list ∙ outermost_flat n.frames in
      let found = fault_in (outermost_call h.0.list) fault in
      rw (← same) (r.goes_on (Err found) (failed found r.state h.0 (Err found) h.1 refl))

  pending : (c : MacroCall) → TurnsTo m (of_list l) (Ok (taken.Call c)) n (of_list k) → IsPending levels m (of_list l) c n (of_list k)
  pending c turns = turn_falls levels m (of_list l) r.sound (Ok (taken.Call c)) n (of_list k) turns refl

  -- a call that has a fault
  pub reached_call_fault : (c : MacroCall) (fault : PlacedFault) → TurnsTo m (of_list l) (Ok (taken.Call c)) n (of_list k)
      → answers_at levels c.opened.definition (site_at c numbering definitions (names_of n.frames ++ hidden)) (Err fault)
      → Alone levels tokens numbering (meaning_of definitions) hidden (Err (fault_in (outermost_frame_call n.frames) fault))
  reached_call_fault c fault turns answers =
      let h = listed_leads false numbering definitions hidden (answers_at levels) m n l k (Ok (taken.Call c)) r.state r.stands turns refl in
      let same : outermost_call h.0.list ≡ outermost_frame_call n.frames = ap outermost_call h.1.list ∙ outermost_flat n.frames in
      let found = fault_in (outermost_call h.0.list) fault in
      rw (← same) (r.goes_on (Err found) (failed found r.state h.0 (Err found)
      (h.2 fault (subst (λ (x : Site). answers_at levels c.opened.definition x (Err fault))
      (sym (site_same false numbering definitions hidden n k c h.0 h.1)) answers)).0 refl))

  -- a call whose frame opened
  module _ (c : MacroCall) (turns : TurnsTo m (of_list l) (Ok (taken.Call c)) n (of_list k))
      (p : kept.Expander) (opened : IsOpened levels numbering definitions (names_of n.frames ++ hidden) c n p) where
    led : LeadsTo argument_reading (IsListed false numbering definitions hidden) hidden (list_simulates false numbering definitions hidden)
        (list_shows false numbering definitions hidden) (list_hides false numbering definitions hidden)
        (list_sees false numbering definitions hidden)
        (answers_at levels) (Ok (taken.Call c)) r.state n (of_list k)
    led = listed_leads false numbering definitions hidden (answers_at levels) m n l k (Ok (taken.Call c)) r.state r.stands turns refl

    less : IsLess levels m (of_list l) p (of_list k)
    less = opened_less false numbering definitions hidden levels m n l k c p (pending c turns)
        led.1.reader.3 opened

    pub call_less : work_of levels p (of_list k) < work_of levels m (of_list l)
    call_less = less.falls

    pub reached_call : Reached levels numbering definitions hidden tokens p k items
    reached_call =
        let f : Expander Listed = record led.0 { list = macro_before c.opened.name c.opened.definition c.call opened.arguments led.0.list } in
        let stands : StandsListed false numbering definitions hidden n k led.0 = led.1 in
        record {
          state = f;
          stands = subst (λ (q : kept.Expander). StandsListed false numbering definitions hidden q k f) (sym opened.opens)
              (record {
                holds = stands.holds;
                list = ap (macro_before c.opened.name c.opened.definition c.call opened.arguments) stands.list;
                reader = stands.reader;
                names = stands.names;
                goes = stands.goes;
              });
          sound = less.sound;
          goes_on = λ out collects. r.goes_on out (emits_keeps r.state f
              (λ o g emits. (led.3 opened.arguments (subst (λ (x : Site). answers_at levels c.opened.definition x (Ok opened.arguments))
              (sym (site_same false numbering definitions hidden n k c led.0 led.1)) opened.answers) o g emits).0) out collects);
          least = omega (arith, r.least, less.falls);
        }
