-- Each turn of an expander with calls lowers what is left to do, and so does the frame that opens after a call.
use Rattle.std.proofs.Common.{◌≡◌, ℕ, suc, ◌+◌, ◌<◌, ◌≤◌, Bool, true, false, if◌then◌else◌, List, [], ◌∷◌, length, arith, ap, subst, refl, le_trans, Option, Some, None, All, Ok, Err, inl, inr, ◌∙◌}
use Rattle.std.specs.Prelude.{IfOk, Result}
use Rattle.pp_model.specs.Places.{PlacedFault}
use Rattle.pp_model.specs.declared.read.Read.{Read}
use Rattle.pp_lexer.specs.declared.token.TokenValue.{TokenValue}
use Rattle.pp_lexer.specs.declared.token.TokenValue.TheVariants.{Ident}
use Rattle.pp_model.specs.Calls.{Gathered}
use Rattle.pp_model.specs.Definitions.{Definition}
use Rattle.pp_model.specs.Names.{Name, is_in}
use Rattle.pp_model.specs.declared.splice.CallPlace.{CallPlace}
use Rattle.pp_macros.specs.inner.Calling.{MacroCall}
use Rattle.pp_macros.specs.inner.CallTurns.{Sought, no_call, sought_by, Seeks, alone, called, Finds, TurnsTo, TurnsOrRefuses, passes, gives, object, seeks, paren_of}
use Rattle.pp_macros.specs.inner.Defined.{Macro, AreNumbered, meaning_of, names_in, numbered_by, body_tokens, opened_by}
use Rattle.pp_macros.specs.inner.Frames.{new_frame, names_of, bare_call}
use Rattle.pp_macros.specs.Item.{PlacedStep, wants_memory}
use Rattle.pp_macros.specs.inner.Left.{reads_left, most_open, most_bodies, one_more, regions_of, regions, work_of, IsSound, most_alone}
use Rattle.pp_macros.specs.inner.Expander.{Expander, StepsTaking, GathersNext}
use Rattle.pp_macros.specs.inner.Reach.{total}
use Rattle.pp_macros.specs.inner.Reader.{Reader, of_source, of_list, visible, definitions_of, is_reserved}
use Rattle.pp_macros.specs.inner.Turns.{macro_of, macro_of_value, Opens}
use Rattle.pp_macros.specs.declared.calls.Taken.{Taken}
use Rattle.pp_macros.specs.declared.calls.Taken.TheVariants as taken
use Rattle.pp_macros.specs.declared.step.PlacedExit.{PlacedExit}
use Rattle.pp_macros.specs.declared.step.PlacedExit.TheVariants.{Error, Continue, Finished}
use Rattle.pp_macros.proofs.open_frames.AdvanceLemmas.{body_within}
use Rattle.pp_macros.proofs.open_frames.PaintLemmas.{opens_apart}
use Rattle.pp_macros.proofs.open_frames.ReportedLemmas.{wants_taken, exit_reported, not_refused}
use Rattle.pp_macros.proofs.open_frames.OpenSoundLemmas.{open_names_few, IsSoundWith, step_sound, next_sound, gather_sound, opened_sound}
use Rattle.pp_macros.proofs.work.ReachLemmas.{frame_steps_level}
use Rattle.pp_macros.proofs.open_frames.SoundLemmas.{length_names}
use Rattle.pp_macros.proofs.work.SpendLemmas.{IsNoMore, Falls, Tightens, tightens_then, step_spends, next_spends, gather_leaves, IsGathered, next_left, gather_left, one_more_falls, no_more_falls, no_more_then, falls_no_more, falls_at_most}
use Rattle.pp_macros.proofs.work.WorkFallsLemmas.{frame_of, falls_work, opened_work, object_steps, call_opens_falls, alone_under}

-- a macro that may open, where it is found
pub record IsFound (n : Expander) (s : Reader) (opened : Macro) : Type 0 where
  pub apart : is_in opened.name (names_of n.frames) ≡ false
  pub defined : meaning_of (definitions_of s) opened.name ≡ Some opened.definition
  pub numbered : AreNumbered (names_in (definitions_of s)) (numbered_by opened)

visible_defined : (s : Reader) (name : Name) (definition : Definition) → visible s name ≡ Some definition → meaning_of (definitions_of s) name ≡ Some definition
visible_defined (of_source source) name definition e = e
visible_defined (of_list list) name definition e = go (is_reserved list name) e
  where
    go : (b : Bool) → (if b then None else meaning_of list.definitions name) ≡ Some definition → meaning_of list.definitions name ≡ Some definition
    go true e = cc
    go false e = e

name_defined : (s : Reader) (x name : Name) (definition : Definition) (d : Option Definition) → visible s x ≡ d
    → opened_by x d ≡ Some (name, definition) → meaning_of (definitions_of s) name ≡ Some definition
name_defined s x name definition None f is = cc
name_defined s x name definition (Some k) f is =
    let pair : ◌≡◌ {A = Name × Definition} (x, k) (name, definition) = cc in
    let same : x ≡ name = ap (λ (p : Name × Definition). p.0) pair in
    let meaning : k ≡ definition = ap (λ (p : Name × Definition). p.1) pair in
    visible_defined s name definition (rw (same, meaning) at f)

opens_defined : (s : Reader) (read : Read) (name : Name) (definition : Definition) → macro_of s read ≡ Some (name, definition)
    → meaning_of (definitions_of s) name ≡ Some definition
opens_defined s read name definition is = by_paint read.painted is
  where
    go : (value : TokenValue) → macro_of_value s value ≡ Some (name, definition) → meaning_of (definitions_of s) name ≡ Some definition
    go (Ident x) e = name_defined s x name definition (visible s x) refl e
    go _ e = cc

    by_paint : (painted : Bool) → (if painted then None else macro_of_value s read.token.value) ≡ Some (name, definition)
        → meaning_of (definitions_of s) name ≡ Some definition
    by_paint true e = cc
    by_paint false e = go read.token.value e

bodies_least : (s : Reader) → body_tokens (definitions_of s) ≤ most_bodies s
bodies_least (of_source source) = omega arith
bodies_least (of_list list) = omega arith

names_least : (s : Reader) → length (definitions_of s) + 1 ≤ most_open s
names_least (of_source source) = omega arith
names_least (of_list list) = omega arith

pub found_body : (n : Expander) (s : Reader) (opened : Macro) → IsFound n s opened → length opened.definition.body ≤ most_bodies s
found_body n s opened found = omega (arith, body_within (definitions_of s) opened.name opened.definition found.defined, bodies_least s)

pub found_sound : (n : Expander) (s : Reader) (opened : Macro) → IsFound n s opened → IsSound n s → IsSoundWith (Some opened) n s
found_sound n s opened found sound = record {
  names = opened_sound (definitions_of s) opened.name (names_of n.frames) sound.names found.apart (rw found.defined refl);
  numbers = (found.numbered, sound.numbers);
}

pub pending_few : (opened : Macro) (call : CallPlace) (arguments : List (List Read)) (n : Expander) (s : Reader)
    → IsSoundWith (Some opened) n s → length (new_frame opened call arguments ∷ n.frames) ≤ most_open s
pending_few opened call arguments n s sound = omega (
  arith,
  open_names_few (definitions_of s) (opened.name ∷ names_of n.frames) sound.names,
  length_names n.frames,
  names_least s,
)

-- What is known after a turn: less is left, and macros are open soundly; after a call there is room for its frame.
pub record IsPending (levels : ℕ) (m : Expander) (r : Reader) (c : MacroCall) (n : Expander) (s : Reader) : Type 0 where
  pub free : n.held ≡ None
  pub room : IsNoMore (frame_of levels r) (most_open r) (regions m r) (one_more (regions_of n.frames (reads_left s)))
  pub tight : Tightens r s
  pub body : length c.opened.definition.body ≤ most_bodies r
  pub tokens : length c.tokens ≤ total (regions m r)
  pub sound : IsSoundWith (Some c.opened) n s

pub record IsLess (levels : ℕ) (m : Expander) (r : Reader) (n : Expander) (s : Reader) : Type 0 where
  pub falls : work_of levels n s < work_of levels m r
  pub tight : Tightens r s
  pub sound : IsSound n s

abbrev pub FallsBy : ℕ → Expander → Reader → PlacedStep Taken → Expander → Reader → Type 0
FallsBy levels m r (Ok (taken.Call c)) n s = IsPending levels m r c n s
FallsBy levels m r (Err Finished) n s = IsSound n s
FallsBy levels m r _ n s = IsLess levels m r n s

module _ (levels : ℕ) (m : Expander) (r : Reader) (sound : IsSound m r) where
  rises : (a b : ℕ) → a ≤ b → frame_of levels r a ≤ frame_of levels r b
  rises = frame_steps_level (most_bodies r) (most_open r) levels

  less_by : (n : Expander) (s : Reader) → Tightens r s → Falls (frame_of levels r) (most_open r) (regions m r) (regions n s) → IsSound n s
      → IsLess levels m r n s
  less_by n s tight falls kept = record { falls = falls_work levels m n r s tight falls; tight = tight; sound = kept }

  exit_falls : (exit : PlacedExit) (n : Expander) (s : Reader) → StepsTaking m r (Err exit) n s → wants_memory {T = Read} (Err exit) ≡ false
      → FallsBy levels m r (Err exit) n s
  exit_falls Continue n s steps reported =
      let h = step_spends (frame_of levels r) (most_open r) rises (Err Continue) m n r s steps refl in
      less_by n s h.tightens h.spends (step_sound None (Err Continue) m n r s steps refl sound)
  exit_falls Finished n s steps reported = step_sound None (Err Finished) m n r s steps refl sound
  exit_falls (Error fault) n s steps reported =
      let h = step_spends (frame_of levels r) (most_open r) rises (Err (Error fault)) m n r s steps reported in
      less_by n s h.tightens (no_more_falls (frame_of levels r) (most_open r) rises (regions m r) (one_more (regions n s)) (regions n s) h.spends
      (one_more_falls (frame_of levels r) (most_open r) rises (regions n s))) (step_sound None (Err (Error fault)) m n r s steps reported sound)

  -- a token that is taken, with what may be done with it
  record IsTokenTaken (n : Expander) (s : Reader) : Type 0 where
    room : IsNoMore (frame_of levels r) (most_open r) (regions m r) (one_more (regions n s))
    tight : Tightens r s
    free : n.held ≡ None
    kept : IsSound n s

  token_taken : (read : Read) (n : Expander) (s : Reader) → StepsTaking m r (Ok read) n s → IsTokenTaken n s
  token_taken read n s steps =
      let h = step_spends (frame_of levels r) (most_open r) rises (Ok read) m n r s steps refl in
      record { room = h.spends; tight = h.tightens; free = h.free; kept = step_sound None (Ok read) m n r s steps refl sound }

  token_falls : (n : Expander) (s : Reader) → IsTokenTaken n s → Falls (frame_of levels r) (most_open r) (regions m r) (regions n s)
  token_falls n s h = no_more_falls (frame_of levels r) (most_open r) rises (regions m r) (one_more (regions n s)) (regions n s) h.room
      (one_more_falls (frame_of levels r) (most_open r) rises (regions n s))

  object_falls : (opened : Macro) (call : CallPlace) (n : Expander) (s : Reader) → IsTokenTaken n s → IsFound n s opened
      → IsLess levels m r (record n { frames = new_frame opened call [] ∷ n.frames }) s
  object_falls opened call n s h found =
      let room : IsNoMore (frame_of levels r) (most_open r) (regions m r) (one_more (regions_of n.frames (reads_left s))) = rw h.free at h.room in
      let body : length opened.definition.body ≤ most_bodies r = omega (arith, found_body n s opened found, h.tight.bodies) in
      let with_it = found_sound n s opened found h.kept in
      record {
        falls = rw h.free (opened_work levels m (new_frame opened call []) n.frames r s h.tight room
            (object_steps levels (total (regions m r)) (most_bodies r) (most_open r) opened call body)
            (pending_few opened call [] n s with_it));
        tight = h.tight;
        sound = record { names = with_it.names; numbers = with_it.numbers };
      }

  -- what is sought after a name
  seek_falls : (read : Read) (opened : Macro) (c : Sought) (step : PlacedStep Taken) (n p q : Expander) (s t : Reader)
      → IsTokenTaken n s → IsFound n s opened → Seeks n s c p t → Finds read opened c step p q → FallsBy levels m r step q t
  seek_falls read opened c step n p q s t h found (alone next n1 p1 s1 t1 c1 taken_next none reported is) finds =
      let quiet : wants_memory next ≡ false = not_refused next reported in
      let k = next_spends (frame_of levels r) (most_open r) rises next n p s t taken_next quiet in
      let found' : Finds read opened (no_call next) step p q = subst (λ (x : Sought). Finds read opened x step p q) is finds in
      let kept : IsSound p t = next_sound None next n p s t taken_next quiet h.kept in
      rw (found'.0, found'.1) (less_by (record p { held = Some next }) t (tightens_then r s t h.tight k.tightens)
      (falls_no_more (frame_of levels r) (most_open r) rises (regions m r) (regions n s) (regions (record p { held = Some next }) t)
      (token_falls n s h) k.spends) kept)
  seek_falls read opened c step n p q s t h found (called next paren n1 between p1 s1 u t1 g c1 taken_next at gathers is) finds =
      go g gathers (subst (λ (x : Sought). Finds read opened x step p q) is finds)
    where
      first : (next : PlacedStep Read) → paren_of next ≡ Some paren → wants_memory next ≡ false
      first (Ok read) e = refl
      first (Err exit) e = cc

      go : (g : Result Gathered PlacedFault) → GathersNext 0 paren between u g p t → Finds read opened (sought_by paren g) step p q
          → FallsBy levels m r step q t
      go (Err fault) gathers finds =
          let k = next_left (frame_of levels r) (most_open r) rises next n between s u taken_next (first next at) in
          let l = gather_left (frame_of levels r) (most_open r) rises 0 paren between p u t (Err fault) gathers in
          let kept : IsSound p t = gather_sound None 0 paren between p u t (Err fault) gathers (next_sound None next n between s u taken_next
          (first next at) h.kept) in
          let less : Falls (frame_of levels r) (most_open r) (regions m r) (regions p t) =
          falls_no_more (frame_of levels r) (most_open r) rises (regions m r) (regions between u) (regions p t)
          (falls_no_more (frame_of levels r) (most_open r) rises (regions m r) (regions n s) (regions between u) (token_falls n s h) k.spends) l.spends in
          rw (finds.0, finds.1) (less_by p t (tightens_then r u t (tightens_then r s u h.tight k.tightens) l.tightens) less kept)
      go (Ok g) gathers finds =
          let k = next_left (frame_of levels r) (most_open r) rises next n between s u taken_next (first next at) in
          let l : IsGathered (frame_of levels r) (most_open r) rises g between p u t =
          gather_leaves (frame_of levels r) (most_open r) rises 0 paren between p u t (Ok g) gathers in
          let fall : Falls (frame_of levels r) (most_open r) (regions m r) (regions between u) =
          falls_no_more (frame_of levels r) (most_open r) rises (regions m r) (regions n s) (regions between u) (token_falls n s h) k.spends in
          let room : IsNoMore (frame_of levels r) (most_open r) (regions m r) (one_more (regions p t)) =
          no_more_then (frame_of levels r) (most_open r) rises (regions m r) (regions between u) (one_more (regions p t))
          (falls_at_most (frame_of levels r) (most_open r) rises (regions m r) (regions between u) fall) l.spends in
          rw (finds.0, finds.1) (record {
            free = l.free;
            room = rw l.free at room;
            tight = tightens_then r u t (tightens_then r s u h.tight k.tightens) l.tightens;
            body = omega (arith, found_body n s opened found, h.tight.bodies);
            tokens = omega (arith, l.least, fall.least);
            sound = gather_sound (Some opened) 0 paren between p u t (Ok g) gathers
                (next_sound (Some opened) next n between s u taken_next (first next at) (found_sound n s opened found h.kept));
          })

  taken_found : (read : Read) (opened : Macro) (n : Expander) (s : Reader) → StepsTaking m r (Ok read) n s → Opens s read opened → IsFound n s opened
  taken_found read opened n s steps some = record {
    apart = opens_apart m n r s read opened.name opened.definition steps some.is;
    defined = opens_defined s read opened.name opened.definition some.is;
    numbered = some.numbered;
  }

  -- each turn lowers what is left; after a call there is room for its frame
  pub turn_falls : (step : PlacedStep Taken) (n : Expander) (s : Reader) → TurnsTo m r step n s → wants_taken step ≡ false → FallsBy levels m r step n s
  turn_falls step n s (passes exit step1 m1 n1 r1 s1 steps is) reported = rw is (exit_falls exit n s steps (exit_reported exit (rw is at reported)))
  turn_falls step n s (gives read step1 m1 n1 r1 s1 steps none is) reported =
      let h = token_taken read n s steps in
      rw is (less_by n s h.tight (token_falls n s h) h.kept)
  turn_falls step p s (object read opened step1 m1 n p1 r1 s1 steps some plain is at) reported =
      rw (is, at) (object_falls opened (bare_call read.text read.token.location) n s (token_taken read n s steps)
      (taken_found read opened n s steps some))
  turn_falls step q t (seeks read opened c step1 m1 n p q1 r1 s t1 steps some function sought found) reported =
      seek_falls read opened c step n p q s t (token_taken read n s steps) (taken_found read opened n s steps some)
      sought found

-- the frame of a call that is pending opens, and less is left than before the turn that began the call
pub pending_opens : (levels : ℕ) (m : Expander) (r : Reader) (c : MacroCall) (n : Expander) (s : Reader) (arguments : List (List Read))
    → IsPending (suc levels) m r c n s
    → All (λ argument. length argument ≤ most_alone levels (definitions_of s) (length c.tokens)) arguments
    → IsLess (suc levels) m r (record { held = None; frames = new_frame c.opened c.call arguments ∷ n.frames }) s
pending_opens levels m r c n s arguments pending all =
    let few = pending_few c.opened c.call arguments n s pending.sound in
    record {
      falls = call_opens_falls levels
          (length c.tokens) m n.frames r s c.opened c.call arguments pending.tight pending.room pending.body pending.tokens
          (λ k d inside. le_trans (all k d inside) (alone_under levels (body_tokens (definitions_of s)) (most_bodies s)
          (length (definitions_of s) + 1) (most_open s) (length c.tokens) (bodies_least s) (names_least s))) few;
      tight = pending.tight;
      sound = record { names = pending.sound.names; numbers = pending.sound.numbers };
    }

-- nothing is held after a call
sought_free : (n p q : Expander) (s t : Reader) (read : Read) (opened : Macro) (c : Sought) (step : PlacedStep Taken) (call : MacroCall)
    → step ≡ Ok (taken.Call call) → Seeks n s c p t → Finds read opened c step p q → q.held ≡ None
sought_free n p q s t read opened c step call is (alone next n1 p1 s1 t1 c1 next_taken none reported at) found =
    let found' : Finds read opened (no_call next) step p q = subst (λ (x : Sought). Finds read opened x step p q) at found in
    let other = found'.0 in cc
sought_free n p q s t read opened c step call is (called next paren n1 between p1 s1 u t1 g c1 next_taken opens gathers at) found =
    go g (gather_leaves (λ c. c) 0 (λ a b low. low) 0 paren between p u t g gathers) (subst (λ (x : Sought). Finds read opened x step p q) at found)
  where
    go : (g : Result Gathered PlacedFault) → IfOk g (λ h. IsGathered (λ c. c) 0 (λ a b low. low) h between p u t)
        → Finds read opened (sought_by paren g) step p q → q.held ≡ None
    go (Err fault) left found = let other = found.0 in cc
    go (Ok h) left found = ap (λ (e : Expander). e.held) found.1 ∙ left.free

pub call_free : (m n : Expander) (r s : Reader) (step : PlacedStep Taken) (call : MacroCall) → step ≡ Ok (taken.Call call) → TurnsOrRefuses m r step n s
    → n.held ≡ None
call_free m n r s step call is (inr refused) = let other = refused.fault in cc
call_free m n r s step call is (inl (passes exit step1 m1 n1 r1 s1 steps other)) = cc
call_free m n r s step call is (inl (gives read step1 m1 n1 r1 s1 steps none other)) = cc
call_free m p r s step call is (inl (object read opened step1 m1 n p1 r1 s1 steps some plain other at)) = cc
call_free m q r t step call is (inl (seeks read opened c step1 m1 n p q1 r1 s t1 steps some function sought found)) =
    sought_free n p q s t read opened c step call is sought found
