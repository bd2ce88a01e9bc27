-- The frames of a processor: those from a base on are the innermost expander's, and those before it are around.
use Rattle.std.proofs.Common.{◌≡◌, ◌∙◌, ◌⊎◌, inl, inr, ℕ, zero, suc, ◌+◌, ◌-◌, ◌<◌, ◌≤◌, true, false, List, [], ◌∷◌, ◌++◌, length, get_or, take, drop, reverse, set, refl, ap, sym, subst, arith, Option, Some, None, Ok, Err, slice_get, length-drop, length-append, Bool}
use Rattle.std.specs.Prelude.{is_none, is_some, IfSome, MatchResult, Result}
use Rattle.std.proofs.Math.ListN.{drop_of_length-le}
use Rattle.std.proofs.Math.Seq.{take-append_seam, drop-append_seam}
use Rattle.std.proofs.lemmas.List.{reverse-append, reverse-reverse, length-reverse, length-set, take-append-drop, take-append-le, drop-append-le, take-set-le, drop-set-add, get_or-drop, drop-take, take-take, take_all, length-take-le}
use Rattle.std.proofs.lemmas.Bool.{cases_lt}
use Rattle.pp_model.specs.Names.{Name}
use Rattle.pp_model.specs.declared.read.Read.{Read}
use Rattle.pp_macros.specs.Item.{PlacedStep}
use Rattle.pp_macros.specs.declared.frames.Ahead.{Ahead}
use Rattle.pp_macros.specs.inner.Ahead.{painted_as, given_by, given_next, frame_after}
use Rattle.pp_macros.specs.inner.Bodies.{noted_by}
use Rattle.pp_macros.specs.inner.Defined.{AreNumbered}
use Rattle.pp_macros.specs.inner.Frames.{Frame, AreCounted, advance, names_of, outermost_frame_call}
use Rattle.pp_macros.specs.inner.Giving.{read_ahead}
use Rattle.pp_macros.specs.inner.Left.{HaveNumbers}
use Rattle.pp_macros.specs.inner.Nesting.{MacroProcessor, open_names, stepped, with_frames}
use Rattle.pp_macros.proofs.open_frames.OpenMacroLemmas.{names_of-append, outermost_first, reverse_last, reverse_set_last, last_gives, last_passes, last_closes, last_stays, has_token, ahead_numbered}
use Rattle.pp_macros.proofs.open_frames.CountLemmas.{counted_kept}

-- a processor with these frames
abbrev pub processor_of : Option (PlacedStep Read) → ℕ → List Frame → MacroProcessor
processor_of held base fs = record {
  here = record { held = held; frames = reverse (drop base fs) };
  below = reverse (take base fs);
}

alike : (held : Option (PlacedStep Read)) (here here' below below' : List Frame) → here ≡ here' → below ≡ below'
    → ◌≡◌ {A = MacroProcessor} (record { here = record { held = held; frames = here }; below = below })
    (record { here = record { held = held; frames = here' }; below = below' })
alike held here here' below below' same around =
    ap (λ (fs : List Frame). let m : MacroProcessor = record { here = record { held = held; frames = fs }; below = below } in m) same
    ∙ ap (λ (fs : List Frame). let m : MacroProcessor = record { here = record { held = held; frames = here' }; below = fs } in m) around

-- all frames, the innermost first
all_frames : (base : ℕ) (fs : List Frame) → reverse fs ≡ reverse (drop base fs) ++ reverse (take base fs)
all_frames base fs = ap reverse (sym (take-append-drop base fs)) ∙ reverse-append (take base fs) (drop base fs)

pub shown_frames : (held : Option (PlacedStep Read)) (base : ℕ) (fs : List Frame) (m : MacroProcessor) → processor_of held base fs ≡ m
    → reverse fs ≡ m.here.frames ++ m.below
shown_frames held base fs m view = all_frames base fs ∙ ap (λ (k : MacroProcessor). k.here.frames ++ k.below) view

-- the names of all frames
pub all_names : (held : Option (PlacedStep Read)) (base : ℕ) (fs : List Frame) → names_of (reverse fs) ≡ open_names (processor_of held base fs)
all_names held base fs = ap names_of (all_frames base fs) ∙ names_of-append (reverse (drop base fs)) (reverse (take base fs))

-- if a macro is open here, there are frames from the base on
pub above_base : (base : ℕ) (fs : List Frame) → is_some (outermost_frame_call (reverse (drop base fs))) ≡ true → base < length fs
above_base base fs some = by (cases_lt base (length fs))
  where
    by : (base < length fs) ⊎ (length fs ≤ base) → base < length fs
    by (inl above) = above
    by (inr past) = absurd (let none : false ≡ true = rw (drop_of_length-le fs past) at some in cc)

-- if none is, there is no frame
pub none_here : (fs : List Frame) → is_some (outermost_frame_call fs) ≡ false → fs ≡ []
none_here [] none = refl
none_here (f ∷ fs) none = cc

pub some_frame : (fs : List Frame) → is_some (outermost_frame_call fs) ≡ true → 0 < length fs
some_frame [] some = cc
some_frame (f ∷ fs) some = omega arith

pub none_given : (fs : List Frame) → is_some (outermost_frame_call fs) ≡ false → given_next fs ≡ None
none_given fs none = ap given_next (none_here fs none)

-- the outermost frame here is the one at the base
at_base : {X : Type 0} (base : ℕ) (xs : List X) (d : X) → base < length xs → slice_get xs base ≡ Some (get_or xs base d)
at_base base [] d within = absurd (omega (arith, within))
at_base zero (x ∷ xs) d within = refl
at_base (suc base) (x ∷ xs) d within = at_base base xs d (omega (arith, within))

get_above : {X : Type 0} (base : ℕ) (xs : List X) → slice_get (drop base xs) 0 ≡ slice_get xs base
get_above zero xs = refl
get_above (suc base) [] = refl
get_above (suc base) (x ∷ xs) = get_above base xs

pub call_here : (base : ℕ) (fs : List Frame) (f : Frame) → base < length fs → f ≡ get_or fs base f → outermost_frame_call (reverse (drop base fs)) ≡ Some f.call
call_here base fs f within is = outermost_first (drop base fs) f (get_above base fs ∙ at_base base fs f within ∙ ap Some (sym is))

pub no_call_here : (base : ℕ) (fs : List Frame) → length fs ≤ base → outermost_frame_call (reverse (drop base fs)) ≡ None
no_call_here base fs past = ap (λ (gs : List Frame). outermost_frame_call (reverse gs)) (drop_of_length-le fs past)

-- a macro is open here
module _ (held : Option (PlacedStep Read)) (base : ℕ) (fs : List Frame) (m : MacroProcessor) (view : processor_of held base fs ≡ m)
    (some : is_some (outermost_frame_call m.here.frames) ≡ true) where
  there_here : base < length fs
  there_here = above_base base fs (ap (λ (k : MacroProcessor). is_some (outermost_frame_call k.here.frames)) view ∙ some)

  some_here : 0 < length (drop base fs)
  some_here = let there = there_here in omega (arith, there, length-drop base fs)

  last_at : base + (length (drop base fs) - 1) ≡ length fs - 1
  last_at = let there = there_here in omega (arith, there, length-drop base fs)

  -- the innermost frame closes
  here_popped : reverse (drop base (take (length fs - 1) fs)) ≡ drop 1 (reverse (drop base fs))
  here_popped =
      let xs = drop base fs in
      let rest : drop base (take (length fs - 1) fs) ≡ take (length xs - 1) xs =
      ap (λ (k : ℕ). drop base (take k fs)) (sym last_at) ∙ drop-take base (length xs - 1) fs in
      ap reverse rest ∙ sym (shorter xs some_here)
    where
      shorter : (xs : List Frame) → 0 < length xs → drop 1 (reverse xs) ≡ reverse (take (length xs - 1) xs)
      shorter [] some = absurd (omega (arith, some))
      shorter (x ∷ xs) some = ap (drop 1) (reverse_last (x ∷ xs) x some)

  pub closed_here : (gs : List Frame) → gs ≡ take (length fs - 1) fs → processor_of held base gs ≡ with_frames m (drop 1 m.here.frames)
  closed_here gs rest =
      let there = there_here in
      rw (rest, ← view) (alike held _ _ _ _ here_popped (ap reverse (take-take base (length fs - 1) fs (omega (arith, there)))))

  pub closed_within : (gs : List Frame) → gs ≡ take (length fs - 1) fs → base ≤ length gs
  closed_within gs rest =
      let there = there_here in
      rw rest (omega (arith, there, length-take-le (length fs - 1) fs (omega arith)))

  -- the innermost frame
  module _ (f : Frame) (n : ℕ) (number : n ≡ length fs) (last : f ≡ get_or fs (n - 1) f) where
    at_end : base + (length (drop base fs) - 1) ≡ n - 1
    at_end = rw number last_at

    last_here : f ≡ get_or (drop base fs) (length (drop base fs) - 1) f
    last_here = last ∙ ap (λ (k : ℕ). get_or fs k f) (sym at_end) ∙ sym (get_or-drop base fs (length (drop base fs) - 1) f)

    -- it changes
    here_set : (v : Frame) → drop base (set fs (n - 1) v) ≡ set (drop base fs) (length (drop base fs) - 1) v
    here_set v = ap (λ (k : ℕ). drop base (set fs k v)) (sym at_end) ∙ drop-set-add base fs (length (drop base fs) - 1) v

    changed_here : (v : Frame) (frames : List Frame) → reverse (set (drop base fs) (length (drop base fs) - 1) v) ≡ frames
        → processor_of held base (set fs (n - 1) v) ≡ with_frames (processor_of held base fs) frames
    changed_here v frames is =
        let there = there_here in
        alike held _ _ _ _ (ap reverse (here_set v) ∙ is) (ap reverse (take-set-le base fs (n - 1) v (omega (arith, number, there))))

    -- what it gives
    pub gives_here : given_next m.here.frames ≡ given_by (advance f)
    gives_here = rw (← view) (last_gives (drop base fs) f some_here last_here)

    pub numbered_here : (o : Option Ahead)
        → IfSome o (λ a. (names : List Name) → AreNumbered names f.noted → AreNumbered names (noted_by a.number a.token.now.value))
        → IfSome o (λ a. (names : List Name) → HaveNumbers names m.here.frames → AreNumbered names (noted_by a.number a.token.now.value))
    numbered_here o tells =
        subst (λ (k : MacroProcessor). IfSome o (λ (a : Ahead). (names : List Name) → HaveNumbers names k.here.frames
        → AreNumbered names (noted_by a.number a.token.now.value))) view
        (ahead_numbered (drop base fs) f some_here last_here o tells)

    -- it advances, and stays open
    pub passes_here : (v : Frame) → is_none (advance f) ≡ false → v ≡ frame_after f (advance f) → processor_of held base (set fs (n - 1) v) ≡ stepped m
    passes_here v goes is =
        rw (← view) (changed_here v _ (last_passes (drop base fs) f some_here last_here v goes is))

    -- it gives a token, or stays as it is
    pub makes_here : {E : Type 0} (painted : Bool) (v : Frame) (made : Result Read E)
        → MatchResult made (λ read. (painted_as painted (given_by (advance f)) ≡ Some read) × (v ≡ frame_after f (advance f))) (λ _. v ≡ f)
        → MatchResult made (λ read. (read_ahead painted m.here ≡ Some read) × (processor_of held base (set fs (n - 1) v) ≡ stepped m))
        (λ _. processor_of held base (set fs (n - 1) v) ≡ m)
    makes_here painted v (Ok read) makes =
        (ap (painted_as painted) gives_here ∙ makes.0, passes_here v (has_token painted (advance f) read makes.0) makes.1)
    makes_here painted v (Err refused) same =
        rw (← view) (changed_here v _ (last_stays (drop base fs) f some_here last_here v same))

    -- it is at its end, and closes
    pub stays_here : (v : Frame) → is_some (outermost_frame_call (reverse (drop base (set fs (n - 1) v)))) ≡ true
    stays_here v = rw (here_set v, reverse_set_last (drop base fs) v some_here) refl

    pub closes_here : (v : Frame) (p : MacroProcessor) → is_some (advance f) ≡ false
        → p ≡ with_frames (processor_of held base (set fs (n - 1) v)) (drop 1 (reverse (drop base (set fs (n - 1) v)))) → p ≡ stepped m
    closes_here v p ends is =
        let there = there_here in
        is ∙ rw (← view) (alike held _ _ _ _
        (ap (λ (gs : List Frame). drop 1 (reverse gs)) (here_set v) ∙ last_closes (drop base fs) f some_here last_here v ends)
        (ap reverse (take-set-le base fs (n - 1) v (omega (arith, number, there)))))

    -- the counts of all frames stay
    pub kept_here : (v : Frame) (counts : List ℕ) → v.number ≡ f.number → AreCounted counts fs
        → AreCounted counts (set fs (n - 1) v) × (base ≤ length (set fs (n - 1) v))
    kept_here v counts same are =
        let there = there_here in (
          counted_kept counts fs f v (n - 1) (omega (arith, number, there)) last same are,
          omega (arith, there, length-set fs (n - 1) v),
        )

-- one more frame opens
pub pushed_here : (held : Option (PlacedStep Read)) (base : ℕ) (fs gs : List Frame) (m : MacroProcessor) (f : Frame) → processor_of held base fs ≡ m → base ≤ length fs
    → gs ≡ fs ++ f ∷ [] → processor_of held base gs ≡ with_frames m (f ∷ m.here.frames)
pushed_here held base fs gs m f view within is =
    rw (is, ← view) (alike held _ _ _ _
    (ap reverse (drop-append-le base fs (f ∷ []) within) ∙ reverse-append (drop base fs) (f ∷ []))
    (ap reverse (take-append-le base fs (f ∷ []) within)))

pub pushed_within : (base : ℕ) (fs gs : List Frame) (f : Frame) → base ≤ length fs → gs ≡ fs ++ f ∷ [] → base ≤ length gs
pushed_within base fs gs f within is = rw is (omega (arith, within, length-append fs (f ∷ [])))

-- an argument begins: all frames are around it
pub nested : (held : Option (PlacedStep Read)) (base n : ℕ) (fs : List Frame) (m : MacroProcessor) → n ≡ length fs → processor_of held base fs ≡ m
    → m.here.held ≡ None → processor_of held n fs ≡ record { here = record { held = None; frames = [] }; below = m.here.frames ++ m.below }
nested held base n fs m number view free =
    let none : held ≡ None = ap (λ (k : MacroProcessor). k.here.held) view ∙ free in
    rw (none, ← view) (alike None _ _ _ _ (ap reverse (drop_of_length-le fs (omega (arith, number)))) (ap reverse (take_all n fs (omega (arith, number))) ∙ all_frames base fs))

pub around_number : (held : Option (PlacedStep Read)) (base : ℕ) (fs : List Frame) (m : MacroProcessor) → processor_of held base fs ≡ m → base ≤ length fs
    → base ≡ length m.below
around_number held base fs m view within = rw (← view) (sym (length-reverse (take base fs) ∙ length-take-le base fs within))

-- it has ended: these frames are around it
around_all : (held : Option (PlacedStep Read)) (base : ℕ) (fs : List Frame) (m : MacroProcessor) → processor_of held base fs ≡ m → m.here.frames ≡ [] → reverse fs ≡ m.below
around_all held base fs m view none =
    all_frames base fs ∙ ap (λ (gs : List Frame). gs ++ reverse (take base fs)) (ap (λ (k : MacroProcessor). k.here.frames) view ∙ none)
    ∙ ap (λ (k : MacroProcessor). k.below) view

pub around_within : (held : Option (PlacedStep Read)) (base n : ℕ) (fs : List Frame) (m : MacroProcessor) → processor_of held base fs ≡ m → m.here.frames ≡ []
    → n ≤ length m.below → n ≤ length fs
around_within held base n fs m view none within =
    omega (arith, within, ap (λ (gs : List Frame). length gs) (around_all held base fs m view none), length-reverse fs)

pub ended : (held : Option (PlacedStep Read)) (base n : ℕ) (fs frames outer : List Frame) (m : MacroProcessor) → processor_of held base fs ≡ m → m.here.frames ≡ []
    → m.below ≡ frames ++ outer → n ≡ length outer
    → processor_of None n fs ≡ record { here = record { held = None; frames = frames }; below = outer }
ended held base n fs frames outer m view none parted number =
    let order : fs ≡ reverse outer ++ reverse frames =
    sym (reverse-reverse fs) ∙ ap reverse (around_all held base fs m view none ∙ parted) ∙ reverse-append frames outer in
    let at : n ≡ length (reverse outer) = number ∙ sym (length-reverse outer) in
    rw (at, order) (alike None _ _ _ _
    (ap reverse (drop-append_seam (reverse outer) (reverse frames)) ∙ reverse-reverse frames)
    (ap reverse (take-append_seam (reverse outer) (reverse frames)) ∙ reverse-reverse outer))
