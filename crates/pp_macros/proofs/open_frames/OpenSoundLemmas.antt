-- Open macros stay sound, even if calls are read over lines of the source; so only few are open.
use Rattle.std.proofs.Common.{◌≡◌, inl, inr, ℕ, suc, ◌+◌, ◌≤◌, Bool, true, false, List, [], ◌∷◌, length, arith, refl, sym, subst, Option, Some, None, All, IfSome, Ok, Err}
use Rattle.std.specs.Prelude.{IsSome, ◌||◌, Result}
use Rattle.std.proofs.lemmas.List.Elements.{All-cons, All-nil}
use Rattle.pp_model.specs.declared.place.Place.{Place}
use Rattle.pp_model.specs.Places.{PlacedFault, place_of}
use Rattle.pp_model.specs.declared.read.Read.{Read}
use Rattle.pp_model.specs.Calls.{Gathered}
use Rattle.pp_model.specs.Names.{Name, is_in, is_same_name}
use Rattle.pp_model.specs.ApartMarks.{AreApart}
use Rattle.pp_lexer.specs.Location.{nowhere}
use Rattle.pp_macros.specs.inner.Defined.{Defined, Macro, Numbered, AreNumbered, GrowAtEnd, meaning_of, names_in}
use Rattle.pp_macros.specs.inner.Frames.{Frame, Advance, advance, names_of, new_frame}
use Rattle.pp_macros.specs.Item.{PlacedStep, wants_memory}
use Rattle.pp_macros.specs.inner.Left.{AreDefinedAbove, AreOpenSoundly, AreSound, HaveNumbers, numbers_in}
use Rattle.pp_macros.specs.inner.Expander.{Expander, StepsFetching, StepsTaking, held, moved, TakesNext, now, later, GathersNext, closed, inside, overfull, ended, failed}
use Rattle.pp_macros.specs.inner.Reader.{Reader, definitions_of}
use Rattle.pp_macros.specs.inner.Turns.{frame_move, Moves, masks}
use Rattle.pp_macros.specs.declared.step.PlacedExit.TheVariants.{Error, Continue, Finished}
use Rattle.pp_macros.proofs.open_frames.AdvanceLemmas.{Advances, advance_lowers}
use Rattle.pp_macros.proofs.defined_names.GrowLemmas.{reads_grow}
use Rattle.pp_macros.proofs.defined_names.NumberLemmas.{numbered_more}
use Rattle.pp_macros.proofs.open_frames.SoundLemmas.{IsDefined, apart_names_few}
use Rattle.pp_macros.proofs.open_frames.ReportedLemmas.{taken_reported, painted_reported}

-- names of which all but the outermost are defined are at most one more than the definitions
but_last : List Name → List Name
but_last [] = []
but_last (x ∷ []) = []
but_last (x ∷ y ∷ names) = x ∷ but_last (y ∷ names)

length_but_last : (names : List Name) → length names ≤ suc (length (but_last names))
unfolding but_last
length_but_last [] = omega arith
length_but_last (x ∷ []) = omega arith
length_but_last (x ∷ y ∷ names) = let h = length_but_last (y ∷ names) in omega arith

not_in_but_last : (x : Name) (names : List Name) → is_in x names ≡ false → is_in x (but_last names) ≡ false
unfolding but_last
not_in_but_last x [] h = refl
not_in_but_last x (y ∷ []) h = refl
not_in_but_last x (y ∷ z ∷ names) h = go (is_same_name x y) (not_in_but_last x (z ∷ names)) h
  where
    go : (b : Bool) → (is_in x (z ∷ names) ≡ false → is_in x (but_last (z ∷ names)) ≡ false) → (b || is_in x (z ∷ names)) ≡ false
        → (b || is_in x (but_last (z ∷ names))) ≡ false
    go true rest k = cc
    go false rest k = rest k

apart_but_last : (names : List Name) → AreApart names → AreApart (but_last names)
unfolding but_last
apart_but_last [] h = tt
apart_but_last (x ∷ []) h = tt
apart_but_last (x ∷ y ∷ names) h = (not_in_but_last x (y ∷ names) h.0, apart_but_last (y ∷ names) h.1)

defined_but_last : (definitions : List Defined) (names : List Name) → AreDefinedAbove definitions names → All (IsDefined definitions) (but_last names)
unfolding but_last
defined_but_last definitions [] h = All-nil (IsDefined definitions)
defined_but_last definitions (x ∷ []) h = All-nil (IsDefined definitions)
defined_but_last definitions (x ∷ y ∷ names) h = All-cons (IsDefined definitions) x (but_last (y ∷ names)) h.0 (defined_but_last definitions (y ∷ names) h.1)

pub open_names_few : (definitions : List Defined) (names : List Name) → AreOpenSoundly definitions names → length names ≤ length definitions + 1
open_names_few definitions names sound =
    omega (
      arith,
      length_but_last names,
      apart_names_few definitions (but_last names) (apart_but_last names sound.apart)
          (defined_but_last definitions names sound.defined),
    )

-- the innermost is gone
pub sound_rest : (definitions : List Defined) (x : Name) (names : List Name) → AreOpenSoundly definitions (x ∷ names) → AreOpenSoundly definitions names
sound_rest definitions x [] sound = record { apart = tt; defined = tt }
sound_rest definitions x (y ∷ names) sound = record { apart = sound.apart.1; defined = sound.defined.1 }

-- the one below the innermost is gone
sound_below : (definitions : List Defined) (x y : Name) (names : List Name) → AreOpenSoundly definitions (x ∷ y ∷ names)
    → AreOpenSoundly definitions (x ∷ names)
sound_below definitions x y [] sound = record { apart = (refl, tt); defined = tt }
sound_below definitions x y (z ∷ names) sound = record {
  apart = (go (is_same_name x y) sound.apart.0, sound.apart.1.1);
  defined = (sound.defined.0, sound.defined.1.1);
}
  where
    go : (b : Bool) → (b || is_in x (z ∷ names)) ≡ false → is_in x (z ∷ names) ≡ false
    go true k = cc
    go false k = k

-- names that are added at the end change no number
pub numbers_more : (old new : List Name) (frames : List Frame) → GrowAtEnd old new → HaveNumbers old frames → HaveNumbers new frames
numbers_more old new [] grow right = tt
numbers_more old new (f ∷ fs) grow right = (numbered_more old new (numbers_in f) grow right.0, numbers_more old new fs grow right.1)

-- a macro that is about to open, with those that are open
abbrev pub with_pending : Option Macro → List Frame → List Frame
with_pending None frames = frames
with_pending (Some opened) frames = new_frame opened (record { name = nowhere; text = 0; line = 0 }) [] ∷ frames

lone_sound : (definitions : List Defined) (pending : Option Macro) → AreOpenSoundly definitions (names_of (with_pending pending []))
lone_sound definitions None = record { apart = tt; defined = tt }
lone_sound definitions (Some opened) = record { apart = (refl, tt); defined = tt }

pop_sound : (definitions : List Defined) (pending : Option Macro) (f : Frame) (fs : List Frame)
    → AreSound definitions (with_pending pending (f ∷ fs)) → AreSound definitions (with_pending pending fs)
pop_sound definitions None f fs sound =
    record { names = sound_rest definitions f.name (names_of fs) sound.names; numbers = sound.numbers.1 }
pop_sound definitions (Some opened) f fs sound = record {
  names = sound_below definitions opened.name f.name (names_of fs) sound.names;
  numbers = (sound.numbers.0, sound.numbers.1.1);
}

-- a frame after a step
stay_sound : (definitions : List Defined) (pending : Option Macro) (f g : Frame) (fs : List Frame) → g.name ≡ f.name → numbers_in g ≡ numbers_in f
    → AreSound definitions (with_pending pending (f ∷ fs)) → AreSound definitions (with_pending pending (g ∷ fs))
stay_sound definitions None f g fs named same sound = record {
  names = subst (λ (name : Name). AreOpenSoundly definitions (name ∷ names_of fs)) (sym named) sound.names;
  numbers = (subst (λ (noted : List Numbered). AreNumbered (names_in definitions) noted) (sym same) sound.numbers.0, sound.numbers.1);
}
stay_sound definitions (Some opened) f g fs named same sound = record {
  names = subst (λ (name : Name). AreOpenSoundly definitions (opened.name ∷ name ∷ names_of fs)) (sym named) sound.names;
  numbers = (
    sound.numbers.0,
    (subst (λ (noted : List Numbered). AreNumbered (names_in definitions) noted) (sym same) sound.numbers.1.0, sound.numbers.1.1),
  );
}

abbrev pub IsSoundWith : Option Macro → Expander → Reader → Type 0
IsSoundWith pending m r = AreSound (definitions_of r) (with_pending pending m.frames)

frame_sound : (pending : Option Macro) (definitions : List Defined) (f : Frame) (fs : List Frame) (o : Option Advance) → IfSome o (Advances f)
    → AreSound definitions (with_pending pending (f ∷ fs))
    → AreSound definitions (with_pending pending (frame_move fs o).after)
frame_sound pending definitions f fs None h sound = pop_sound definitions pending f fs sound
frame_sound pending definitions f fs (Some a) h sound =
    let same : numbers_in a.after ≡ numbers_in f = rw (h.name, h.number, h.noted) refl in
    stay_sound definitions pending f a.after fs h.name same sound

moves_sound : (pending : Option Macro) (move : PlacedStep Read) (fs gs : List Frame) (r s : Reader) → Moves fs r move gs s → wants_memory move ≡ false
    → AreSound (definitions_of r) (with_pending pending fs) → AreSound (definitions_of s) (with_pending pending gs)
moves_sound pending move [] gs r s h reported sound =
    rw h.0 (record {
      names = lone_sound (definitions_of s) pending;
      numbers = numbers_more (names_in (definitions_of r)) (names_in (definitions_of s)) (with_pending pending []) (reads_grow move r s h.1 reported)
          sound.numbers;
    })
moves_sound pending move (f ∷ fs) gs r s (same, inl h) reported sound =
    rw (same, h.1) (frame_sound pending (definitions_of r) f fs (advance f) (advance_lowers f) sound)
moves_sound pending move (f ∷ fs) gs r s (same, inr h) reported sound = absurd (let bad : true ≡ false = rw h at reported in cc)

fetch_sound : (pending : Option Macro) (step : PlacedStep Read) (m n : Expander) (r s : Reader) → StepsFetching m r step n s → wants_memory step ≡ false
    → IsSoundWith pending m r → IsSoundWith pending n s
fetch_sound pending step m n r s (held step1 m1 n1 r1 s1 is at same) reported sound = rw (at, same) sound
fetch_sound pending step m n r s (moved move step1 m1 n1 r1 s1 free moves is none) reported sound =
    moves_sound pending move m.frames n.frames r s moves (taken_reported move n.frames s (rw is at reported)) sound

pub step_sound : (pending : Option Macro) (step : PlacedStep Read) (m n : Expander) (r s : Reader) → StepsTaking m r step n s → wants_memory step ≡ false
    → IsSoundWith pending m r → IsSoundWith pending n s
step_sound pending step m n r s steps reported sound =
    fetch_sound pending steps.first m n r s steps.fetches (painted_reported (masks n.frames s) steps.first (rw steps.paints at reported)) sound

pub next_sound : (pending : Option Macro) (step : PlacedStep Read) (m n : Expander) (r s : Reader) → TakesNext m r step n s → wants_memory step ≡ false
    → IsSoundWith pending m r → IsSoundWith pending n s
next_sound pending step m n r s (now step1 m1 n1 r1 s1 steps goes) reported sound = step_sound pending step m n r s steps reported sound
next_sound pending step m n r s (later step1 m1 between n1 r1 s1 t1 steps next) reported sound =
    next_sound pending step between n s1 s next reported (step_sound pending (Err Continue) m between r s1 steps refl sound)

pub gather_sound : (pending : Option Macro) (k : ℕ) (last : Place) (m n : Expander) (r s : Reader) (g : Result Gathered PlacedFault)
    → GathersNext k last m r g n s → IsSoundWith pending m r → IsSoundWith pending n s
gather_sound pending k last m n r s g (closed k1 last1 read m1 n1 r1 s1 g1 next out is) sound = next_sound pending (Ok read) m n r s next refl sound
gather_sound pending k last m n r s g (inside k1 l last1 read m1 between n1 r1 s1 t1 rest g1 next in_call more is) sound =
    gather_sound pending l (place_of read) between n s1 s rest more (next_sound pending (Ok read) m between r s1 next refl sound)
gather_sound pending k last m n r s g (overfull k1 last1 read m1 n1 r1 s1 g1 next out is) sound = next_sound pending (Ok read) m n r s next refl sound
gather_sound pending k last m n r s g (ended k1 last1 m1 n1 r1 s1 g1 next is) sound = next_sound pending (Err Finished) m n r s next refl sound
gather_sound pending k last m n r s g (failed k1 last1 fault m1 n1 r1 s1 g1 next reported is) sound =
    next_sound pending (Err (Error fault)) m n r s next reported sound

-- a macro that opens where it may: it is open nowhere, and defined
pub opened_sound : (definitions : List Defined) (x : Name) (names : List Name) → AreOpenSoundly definitions names → is_in x names ≡ false
    → IsSome (meaning_of definitions x) → AreOpenSoundly definitions (x ∷ names)
opened_sound definitions x [] sound apart defined = record { apart = (refl, tt); defined = tt }
opened_sound definitions x (y ∷ names) sound apart defined = record { apart = (apart, sound.apart); defined = (defined, sound.defined) }
