-- Steps of taking, as the code makes them.
use Rattle.std.proofs.Common.{◌≡◌, ◌∙◌, false, true, List, [], ◌∷◌, ◌++◌, ◌<◌, ℕ, arith, refl, sym, ap, subst, Option, Some, None, Result, Ok, Err}
use Rattle.std.specs.Prelude.{is_some, length, take, ◌-◌}
use Rattle.std.specs.List.{slice_get}
use Rattle.std.proofs.lemmas.List.{length-append}
use Rattle.std.proofs.lemmas.Option.{slice_get-get_or}
use Rattle.std.proofs.Math.Seq.{get_or-append_seam, take-append_seam}
use Rattle.pp_model.specs.declared.place.Place.{Place}
use Rattle.pp_model.specs.Places.{PlacedFault, place_of, unasked}
use Rattle.pp_model.specs.declared.read.Read.{Read}
use Rattle.pp_lexer.specs.declared.token.PreprocessorError.TheVariants.{IntegerOverflow, UnexpectedEndOfInput}
use Rattle.pp_model.specs.Calls.{Gathered, before, nesting, closes, within, too_many}
use Rattle.pp_macros.specs.Item.{PlacedStep, is_out_of_memory}
use Rattle.pp_macros.specs.inner.Frames.{Frame}
use Rattle.pp_macros.specs.inner.Expander.{LeadsToNext, Expander, is_pause, taken_as, StepsFetching, StepsTaking, held, moved, TakesNext, now, later, GathersNext, closed, inside, overfull, ended, failed}
use Rattle.pp_macros.specs.inner.Left.{regions, regions_of, holding_step, reads_left}
use Rattle.pp_model.proofs.calls.GatherLemmas.{after_tokens, after_tokens-before, after_tokens-closed}
use Rattle.pp_macros.specs.inner.Reach.{total}
use Rattle.pp_macros.specs.inner.Idle.{is_idle}
use Rattle.pp_macros.specs.inner.Reader.{Reader, Reads, hidden_of}
use Rattle.pp_macros.specs.inner.Reading.{painted_step}
use Rattle.pp_macros.proofs.work.SpendLemmas.{step_spends, next_spends, total_one_more}
use Rattle.pp_macros.specs.inner.Turns.{Moves, masks}
use Rattle.pp_macros.specs.declared.step.PlacedExit.TheVariants.{Error, Continue, Finished}

-- what is held comes first
pub fetches_held : (m n : Expander) (step : PlacedStep Read) (r : Reader) → m.held ≡ Some step → n ≡ record m { held = None } → StepsFetching m r step n r
fetches_held m n step r is at = held step m n r r is at refl

pub none_held : (o : Option (PlacedStep Read)) → is_some o ≡ false → o ≡ None
none_held None e = refl
none_held (Some step) e = cc

-- what a step of the frames or the reader is once it comes first
pub fetches_step : (m : Expander) (old new : Option (PlacedStep Read)) (frames after : List Frame) (move step : PlacedStep Read) (r s : Reader)
    → m ≡ record { held = old; frames = frames } → old ≡ None → new ≡ None
    → Moves frames r move after s → step ≡ taken_as move after s → StepsFetching m r step (record { held = new; frames = after }) s
fetches_step m old new frames after move step r s e f g moves is =
    moved move step m (record { held = new; frames = after }) r s (ap (λ (k : Expander). k.held) e ∙ f)
    (subst (λ (fs : List Frame). Moves fs r move after s) (sym (ap (λ (k : Expander). k.frames) e)) moves) is g

abbrev pub idle : Expander
idle = record { held = None; frames = [] }

idle_at : (o : Option (PlacedStep Read)) (fs : List Frame) → is_idle (record { held = o; frames = fs }) ≡ true
    → ◌≡◌ {A = Expander} (record { held = o; frames = fs }) idle
idle_at None [] e = refl
idle_at None (f ∷ fs) e = cc
idle_at (Some step) fs e = cc

pub is_idle-idle : (m : Expander) → is_idle m ≡ true → m ≡ idle
is_idle-idle m e = idle_at m.held m.frames e

-- if nothing is held and no macro is open, a step of the reader is taken, unless it gives `__LINE__`; a token is painted
pub idle_steps : (m : Expander) (r s : Reader) (step : PlacedStep Read) → is_idle m ≡ true → Reads r step s → step ≡ taken_as step m.frames s
    → StepsTaking m r (painted_step (hidden_of s) step) m s
idle_steps m r s step waits reads shown =
    let none = is_idle-idle m waits in
    let held = ap (λ (k : Expander). k.held) none in
    let frames = ap (λ (k : Expander). k.frames) none in
    record {
      first = step;
      fetches = fetches_step m m.held m.held m.frames m.frames step step r s refl held held
          (subst (λ (fs : List Frame). Moves fs r step fs s) (sym frames) (refl, reads)) shown;
      paints = subst (λ (fs : List Frame). painted_step (hidden_of s) step ≡ painted_step (masks fs s) step) (sym frames) refl;
    }

pub leads_more : (m n p : Expander) (r s t : Reader) (step : PlacedStep Read) → LeadsToNext m r n s → StepsTaking n s step p t → is_pause step ≡ true
    → LeadsToNext m r p t
leads_more m n p r s t (Err Continue) leads steps pause = λ step q u next. leads step q u (later step n p q s t u steps next)
leads_more m n p r s t (Err Finished) leads steps pause = cc
leads_more m n p r s t (Err (Error fault)) leads steps pause = cc
leads_more m n p r s t (Ok read) leads steps pause = cc

pub leads_now : (m n p : Expander) (r s t : Reader) (step : PlacedStep Read) → LeadsToNext m r n s → StepsTaking n s step p t → is_pause step ≡ false
    → TakesNext m r step p t
leads_now m n p r s t step leads steps goes = leads step p t (now step n p s t steps goes)

-- a pause falls
pub pause_falls : (m n : Expander) (r s : Reader) (step : PlacedStep Read) → StepsTaking m r step n s → is_pause step ≡ true
    → total (regions n s) < total (regions m r)
pause_falls m n r s (Err Continue) steps pause = (step_spends (λ c. c) 0 (λ a b low. low) (Err Continue) m n r s steps refl).spends.least
pause_falls m n r s (Err Finished) steps pause = cc
pause_falls m n r s (Err (Error fault)) steps pause = cc
pause_falls m n r s (Ok read) steps pause = cc

-- what comes next is no pause
pub next_no_pause : (m n : Expander) (r s : Reader) (step : PlacedStep Read) → TakesNext m r step n s → is_pause step ≡ false
next_no_pause m n r s step (now step1 m1 n1 r1 s1 steps goes) = goes
next_no_pause m n r s step (later step1 m1 between n1 r1 s1 t1 steps next) = next_no_pause between n s1 s step next

-- what comes next lowers what is left, but at the end
pub next_falls : (m n : Expander) (r s : Reader) (read : Read) → TakesNext m r (Ok read) n s → total (regions n s) < total (regions m r)
next_falls m n r s read next =
    let h = next_spends (λ c. c) 0 (λ a b low. low) (Ok read) m n r s next refl in
    let free : regions n s ≡ regions_of n.frames (reads_left s) = ap (λ o. holding_step o (regions_of n.frames (reads_left s))) h.free in
    omega (arith, h.spends.least, total_one_more (regions_of n.frames (reads_left s)), ap total free)

-- the last of the tokens, after one was put there, and the tokens before it
last_place : (before : List Read) (read : Read) → length (before ++ read ∷ []) - 1 ≡ length before
last_place before read = omega (arith, length-append before (read ∷ []))

pub last_put : (before more : List Read) (read last : Read) → more ≡ before ++ read ∷ [] → Some last ≡ slice_get more (length more - 1) → last ≡ read
last_put before more read last is found =
    let here : slice_get (before ++ read ∷ []) (length before) ≡ Some read =
    slice_get-get_or (before ++ read ∷ []) (length before) read (omega (arith, length-append before (read ∷ [])))
    ∙ ap (λ (r : Read). Some r) (get_or-append_seam before read [] read) in
    let same : Some last ≡ Some read =
    (rw (is, last_place before read) at found) ∙ here in
    cc

pub before_last : (before more : List Read) (read : Read) (count : ℕ) → count ≡ length more → more ≡ before ++ read ∷ []
    → take (count - 1) more ≡ before
before_last before more read count counts is = rw (counts, is, last_place before read) (take-append_seam before (read ∷ []))

-- how the search goes on from here is how it goes on from the beginning, after these tokens
abbrev pub Gathering : Place → Expander → Reader → List Read → ℕ → Place → Expander → Reader → Type 0
Gathering paren m r tokens k last n s = (rest : Result Gathered PlacedFault) (p : Expander) (t : Reader) → GathersNext k last n s rest p t
    → GathersNext 0 paren m r (after_tokens tokens rest) p t

module _ (paren : Place) (m : Expander) (r : Reader) (tokens : List Read)
    (k : ℕ) (last : Place) (n : Expander) (s : Reader) (so_far : Gathering paren m r tokens k last n s) (p : Expander) (t : Reader) where
  pub gathers_fault : (fault : PlacedFault) → TakesNext n s (Err (Error fault)) p t → is_out_of_memory fault.0 ≡ false → GathersNext 0 paren m r (Err (unasked fault)) p t
  gathers_fault fault next reported = so_far (Err (unasked fault)) p t (failed k last fault n p s t (Err (unasked fault)) next reported refl)

  pub gathers_end : TakesNext n s (Err Finished) p t → GathersNext 0 paren m r (Err (UnexpectedEndOfInput, last)) p t
  gathers_end next = so_far (Err (UnexpectedEndOfInput, last)) p t (ended k last n p s t (Err (UnexpectedEndOfInput, last)) next refl)

  pub gathers_never : (g : Result Gathered PlacedFault) → TakesNext n s (Err Continue) p t → GathersNext 0 paren m r g p t
  gathers_never g next = absurd (let bad : true ≡ false = next_no_pause n p s t (Err Continue) next in cc)

  pub gathers_closed : (read : Read) → TakesNext n s (Ok read) p t → nesting k read.token.value ≡ closes
      → GathersNext 0 paren m r (Ok (record { tokens = tokens; closing = read.token.location })) p t
  gathers_closed read next out = rw (← after_tokens-closed tokens read.token.location)
      (so_far (Ok (record { tokens = []; closing = read.token.location })) p t
      (closed k last read n p s t (Ok (record { tokens = []; closing = read.token.location })) next out refl))

  pub gathers_overfull : (read : Read) → TakesNext n s (Ok read) p t → nesting k read.token.value ≡ too_many
      → GathersNext 0 paren m r (Err (IntegerOverflow, place_of read)) p t
  gathers_overfull read next out = so_far (Err (IntegerOverflow, place_of read)) p t (overfull k last read n p s t
      (Err (IntegerOverflow, place_of read)) next out refl)

  pub gathers_more : (read : Read) (l : ℕ) (more : List Read) → TakesNext n s (Ok read) p t → nesting k read.token.value ≡ within l
      → more ≡ tokens ++ read ∷ [] → Gathering paren m r more l (place_of read) p t
  gathers_more read l more next in_call is =
      rw is (λ rest q u gathers. rw (← after_tokens-before tokens read rest)
      (so_far (before read rest) q u (inside k l last read n p q s t u rest (before read rest) next in_call gathers refl)))
