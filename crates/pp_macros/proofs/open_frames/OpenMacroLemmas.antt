-- Open macros, which the expander keeps with the innermost last.
use Rattle.std.proofs.Common.{◌≡◌, ◌∙◌, ◌+◌, ◌-◌, ◌<◌, true, false, List, [], ◌∷◌, ◌++◌, length, get_or, take, drop, reverse, set, refl, ap, sym, subst, arith, Option, Some, None, slice_get, get_or-set_same, Bool}
use Rattle.std.specs.Prelude.{is_none, is_some, IfSome, IsSome}
use Rattle.std.proofs.Math.Seq.{take-length}
use Rattle.std.proofs.lemmas.List.{reverse-append, take_more, length-set, take-set, set-get_or}
use Rattle.pp_model.specs.Names.{Name}
use Rattle.pp_model.specs.declared.read.Read.{Read}
use Rattle.pp_macros.specs.inner.Frames.{Frame, Advance, advance, names_of, outermost_frame_call}
use Rattle.pp_macros.specs.declared.frames.Ahead.{Ahead}
use Rattle.pp_macros.specs.inner.Ahead.{painted_as, given_by, given_next, frame_after, frames_after}
use Rattle.pp_macros.specs.inner.Bodies.{noted_by}
use Rattle.pp_macros.specs.inner.Defined.{AreNumbered}
use Rattle.pp_macros.specs.inner.Left.{HaveNumbers}
use Rattle.pp_macros.specs.inner.Turns.{frame_move}
use Rattle.pp_macros.proofs.open_frames.FrameLemmas.{gives_something}

pub names_of-append : (fs gs : List Frame) → names_of (fs ++ gs) ≡ names_of fs ++ names_of gs
names_of-append [] gs = refl
names_of-append (f ∷ fs) gs = ap (λ names. f.name ∷ names) (names_of-append fs gs)

-- the outermost frame is the first that was opened
outermost_at_end : (fs : List Frame) (f : Frame) → outermost_frame_call (fs ++ f ∷ []) ≡ Some f.call
outermost_at_end [] f = refl
outermost_at_end (g ∷ gs) f = rw (outermost_at_end gs f) refl

-- where the outermost was called is where the first was
pub outermost_first : (fs : List Frame) (f : Frame) → slice_get fs 0 ≡ Some f → outermost_frame_call (reverse fs) ≡ Some f.call
outermost_first [] f e = cc
outermost_first (g ∷ gs) f e =
    let same : g ≡ f = cc in
    rw (reverse-append (g ∷ []) gs) (outermost_at_end (reverse gs) g ∙ ap (λ h. Some h.call) same)

-- a list that is not empty is what is before its last item, and that
pub with_last : {X : Type 0} (xs : List X) (d : X) → 0 < length xs → xs ≡ take (length xs - 1) xs ++ get_or xs (length xs - 1) d ∷ []
with_last xs d some =
    let within : length xs - 1 < length xs = omega arith in
    let whole : length xs - 1 + 1 ≡ length xs = omega arith in
    sym (take-length xs) ∙ (rw whole at (take_more xs (length xs - 1) d within))

pub reverse_last : {X : Type 0} (xs : List X) (d : X) → 0 < length xs → reverse xs ≡ get_or xs (length xs - 1) d ∷ reverse (take (length xs - 1) xs)
reverse_last xs d some = ap reverse (with_last xs d some) ∙ reverse-append (take (length xs - 1) xs) (get_or xs (length xs - 1) d ∷ [])

pub reverse_set_last : {X : Type 0} (xs : List X) (v : X) → 0 < length xs → reverse (set xs (length xs - 1) v) ≡ v ∷ reverse (take (length xs - 1) xs)
reverse_set_last xs v some =
    let e : length (set xs (length xs - 1) v) ≡ length xs = length-set xs (length xs - 1) v in
    let within : length xs - 1 < length xs = omega arith in
    let more : 0 < length (set xs (length xs - 1) v) = omega arith in
    let h = reverse_last (set xs (length xs - 1) v) v more in
    rw (e, get_or-set_same, take-set) at h

-- a step of the innermost frame, which stays open
frame_passes : (advanced : Option Advance) (f v : Frame) (fs : List Frame) → is_none advanced ≡ false → v ≡ frame_after f advanced
    → v ∷ fs ≡ (frame_move fs advanced).after
frame_passes (Some a) f v fs goes is = ap (λ w. w ∷ fs) is
frame_passes None f v fs goes is = cc

-- what gives a token isn't at its end
pub goes_on : (advanced : Option Advance) → IsSome (given_by advanced) → is_none advanced ≡ false
goes_on (Some a) some = refl
goes_on None some = gives_something None refl some

-- nor is what gives this token
pub has_token : (painted : Bool) (advanced : Option Advance) (read : Read) → painted_as painted (given_by advanced) ≡ Some read → is_none advanced ≡ false
has_token painted (Some a) read gives = refl
has_token painted None read gives = cc

-- where a token is given, a macro is open
pub given_open : (fs : List Frame) → IsSome (given_next fs) → is_some (outermost_frame_call fs) ≡ true
given_open [] some = gives_something None refl some
given_open (f ∷ fs) some = refl

-- what has a step isn't at its end
pub has_step : (advanced : Option Advance) → is_some advanced ≡ true → is_none advanced ≡ false
has_step (Some a) some = refl
has_step None some = cc

-- the innermost frame is closed if it is at its end
frame_closes : (advanced : Option Advance) (fs : List Frame) → is_some advanced ≡ false → fs ≡ (frame_move fs advanced).after
frame_closes (Some a) fs ends = cc
frame_closes None fs ends = refl

-- the last of some frames is the innermost
module _ (fs : List Frame) (f : Frame) (some : 0 < length fs) (last : f ≡ get_or fs (length fs - 1) f) where
  innermost_first : reverse fs ≡ f ∷ reverse (take (length fs - 1) fs)
  innermost_first = reverse_last fs f some ∙ ap (λ (g : Frame). g ∷ reverse (take (length fs - 1) fs)) (sym last)

  -- it gives what the frames give
  pub last_gives : given_next (reverse fs) ≡ given_by (advance f)
  last_gives = ap given_next innermost_first

  -- the number that is noted for the token that it gives is right if those of the frames are
  pub ahead_numbered : (o : Option Ahead)
      → IfSome o (λ a. (names : List Name) → AreNumbered names f.noted → AreNumbered names (noted_by a.number a.token.now.value))
      → IfSome o (λ a. (names : List Name) → HaveNumbers names (reverse fs) → AreNumbered names (noted_by a.number a.token.now.value))
  ahead_numbered None tells = tt
  ahead_numbered (Some a) tells = λ names right.
      let all : HaveNumbers names (f ∷ reverse (take (length fs - 1) fs)) = subst (HaveNumbers names) innermost_first right in
      tells names all.0.1

  -- its step is a step of the frames
  pub last_passes : (v : Frame) → is_none (advance f) ≡ false → v ≡ frame_after f (advance f)
      → reverse (set fs (length fs - 1) v) ≡ frames_after (reverse fs)
  last_passes v goes passes =
      rw (innermost_first, reverse_set_last fs v some) (frame_passes (advance f) f v (reverse (take (length fs - 1) fs)) goes passes)

  -- if it stays as it is, so do the frames
  pub last_stays : (v : Frame) → v ≡ f → reverse (set fs (length fs - 1) v) ≡ reverse fs
  last_stays v same = ap reverse (ap (set fs (length fs - 1)) (same ∙ last) ∙ set-get_or fs (length fs - 1) f)

  -- at its end it closes
  pub last_closes : (v : Frame) → is_some (advance f) ≡ false → drop 1 (reverse (set fs (length fs - 1) v)) ≡ frames_after (reverse fs)
  last_closes v ends =
      rw (innermost_first, reverse_set_last fs v some) (frame_closes (advance f) (reverse (take (length fs - 1) fs)) ends)
