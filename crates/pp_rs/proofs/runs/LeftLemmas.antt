-- A turn that isn't the end had something left to read.
use Rattle.std.proofs.Common.{◌≡◌, ◌≢◌, ◌⊎◌, ◌∙◌, inl, inr, ℕ, ◌<◌, length, arith, true, false, Bool, List, [], ◌∷◌, refl, ap, sym, subst, Option, Some, None}
use Rattle.std.specs.Prelude.{Ok, Err, ◌-◌}
use Rattle.std.specs.Fn.{iterate}
use Rattle.pp_lexer.specs.Lexed.{Seen}
use Rattle.pp_lexer.specs.declared.token.Token.{Token}
use Rattle.pp_model.specs.Names.{Name}
use Rattle.pp_model.specs.declared.read.Read.{Read}
use Rattle.pp_macros.specs.inner.CallTurns.{TakesSomething}
use Rattle.pp_macros.specs.inner.Frames.{Frame}
use Rattle.pp_macros.specs.Item.{PlacedStep}
use Rattle.pp_macros.specs.inner.Left.{work_of, regions, regions_of, most_open, most_bodies, holding_step}
use Rattle.pp_macros.specs.inner.Expander.{Expander, StepsFetching, held, moved, taken_as}
use Rattle.pp_macros.specs.declared.blocks.OpenBlock.{OpenBlock}
use Rattle.pp_macros.specs.inner.Reach.{growth, through, total, work_in, frame_steps}
use Rattle.pp_macros.specs.inner.Reader.{Reader, of_source, of_list, Reads, ReadsSource, reads as reads_text, leaves}
use Rattle.pp_macros.specs.inner.Source.{SuspendedText, Source, StepsSource}
use Rattle.pp_macros.specs.inner.Reading.{unpainted_step, painted_step}
use Rattle.pp_macros.specs.inner.Turns.{Moves, masks}
use Rattle.pp_macros.specs.inner.Work.{is_end, most_reads, reads_around}
use Rattle.pp_macros.specs.declared.step.PlacedExit.TheVariants.{Finished}
use Rattle.pp_macros.proofs.open_frames.AdvanceLemmas.{some_steps_left}
use Rattle.pp_macros.proofs.work.ReachLemmas.{through_up}
use Rattle.pp_macros.proofs.work.SpendLemmas.{total_one_more}

-- something is held that isn't the end
abbrev pub HoldsMore : Option (PlacedStep Read) → Type 0
HoldsMore None = ⊥
HoldsMore (Some step) = is_end step ≡ false

-- an item is left to read, or an open block to be reported, or a text around to go back to
abbrev pub SomethingIn : Source → Type 0
SomethingIn source = (source.rest ≢ []) ⊎ (source.blocks ≢ []) ⊎ (source.around ≢ [])

-- something is held, or a macro is open, or something is left in the source
abbrev pub SomethingLeft : Expander → Source → Type 0
SomethingLeft expander source = HoldsMore expander.held ⊎ (expander.frames ≢ []) ⊎ SomethingIn source

-- a text with nothing left is at its end
empty_text : (old : Source) (dead : Bool) (new : Source) (step : PlacedStep Token)
    → StepsSource (record old { rest = []; blocks = []; spent = false; dead_for_good = dead }) step new → step ≡ Err Finished
empty_text old dead new step (inl h) = absurd (h.some_left refl)
empty_text old true new step (inr h) = h.0
empty_text old false new step (inr h) = h.0

text_before : (old : Source) (rest : List Seen) (blocks : List OpenBlock) (new : Source) (step : PlacedStep Token)
    → StepsSource (record old { rest = rest; blocks = blocks; spent = false }) step new → (step ≡ Err Finished → ⊥)
    → (rest ≢ []) ⊎ (blocks ≢ []) ⊎ (old.around ≢ [])
text_before old (x ∷ rest) blocks new step h goes = inl (λ e. cc)
text_before old [] (block ∷ blocks) new step h goes = inr (inl (λ e. cc))
text_before old [] [] new step h goes = absurd (goes (empty_text old old.dead_for_good new step h))

some_around : (outer : SuspendedText) (around texts : List SuspendedText) → texts ≡ outer ∷ around → texts ≢ []
some_around outer around texts is none = cc

left_in_source : (old new : Source) (step : PlacedStep Read) → old.spent ≡ false → ReadsSource old step new → (step ≡ Err Finished → ⊥)
    → SomethingIn old
left_in_source old new step unspent (leaves outer around over is pause at) goes = inr (inr (some_around outer around old.around is))
left_in_source old new step unspent (reads_text given steps reports ends is) goes =
    text_before old old.rest old.blocks new given (subst (λ (b : Bool). StepsSource (record old { spent = b }) given new) unspent steps)
    (λ e. goes (is ∙ ap (unpainted_step old.text) e))

left_in_reader : (old : Source) (s : Reader) (step : PlacedStep Read) → old.spent ≡ false → Reads (of_source old) step s → (step ≡ Err Finished → ⊥)
    → SomethingIn old
left_in_reader old (of_source new) step unspent h goes = left_in_source old new step unspent h goes
left_in_reader old (of_list list) step unspent h goes = absurd h

moved_left : (frames after : List Frame) (old : Source) (s : Reader) (step : PlacedStep Read) → old.spent ≡ false
    → Moves frames (of_source old) step after s → (step ≡ Err Finished → ⊥) → (frames ≢ []) ⊎ SomethingIn old
moved_left (f ∷ fs) after old s step unspent moves goes = inl (λ e. cc)
moved_left [] after old s step unspent moves goes = inr (left_in_reader old s step unspent moves.1 goes)

fetching_left : (m n : Expander) (old : Source) (s : Reader) (step : PlacedStep Read) → old.spent ≡ false → StepsFetching m (of_source old) step n s
    → is_end step ≡ false → SomethingLeft m old
fetching_left m n old s step unspent (held step1 m1 n1 r1 s1 is at same) goes = inl (subst HoldsMore (sym is) goes)
fetching_left m n old s step unspent (moved move step1 m1 n1 r1 s1 free moves is none) goes =
    inr (moved_left m.frames n.frames old s move unspent moves (λ e. absurd (ends e)))
  where
    ends : move ≡ Err Finished → ⊥
    ends e = let bad : is_end step ≡ true = ap is_end (is ∙ ap (λ (x : PlacedStep Read). taken_as x n.frames s) e) in cc

painted_goes : (names : List Name) (first : PlacedStep Read) → is_end (painted_step names first) ≡ is_end first
painted_goes names (Ok read) = refl
painted_goes names (Err exit) = refl

-- where something was taken, something was left
pub some_left : (m : Expander) (old : Source) → old.spent ≡ false → TakesSomething m (of_source old) → SomethingLeft m old
some_left m old unspent h =
    let first = h.takes.first in
    fetching_left m h.after old h.reader first unspent h.takes.fetches
    (sym (painted_goes (masks h.after.frames h.reader) first) ∙ sym (ap is_end h.takes.paints) ∙ h.goes)

some_there : {A : Type 0} (items : List A) → items ≢ [] → 0 < length items
some_there [] left = absurd (left refl)
some_there (x ∷ items) left = omega arith

frames_some : (frames : List Frame) (reads : ℕ) → (frames ≢ []) ⊎ (0 < reads) → 0 < total (regions_of frames reads)
frames_some [] reads (inl left) = absurd (left refl)
frames_some [] reads (inr left) = omega arith
frames_some (f ∷ fs) reads left = omega (arith, some_steps_left f)

holding_some : (o : Option (PlacedStep Read)) (xs : List ℕ) → HoldsMore o → 0 < total (holding_step o xs)
holding_some None xs h = absurd h
holding_some (Some step) xs h = rw h (omega (arith, total_one_more xs))

holding_more : (o : Option (PlacedStep Read)) (xs : List ℕ) → 0 < total xs → 0 < total (holding_step o xs)
holding_more None xs h = h
holding_more (Some step) xs h = go (is_end step) refl
  where
    go : (b : Bool) → is_end step ≡ b → 0 < total (holding_step (Some step) xs)
    go true e = rw e h
    go false e = rw e (omega (arith, total_one_more xs))

around_some : (texts : List SuspendedText) → texts ≢ [] → 0 < reads_around texts
around_some [] left = absurd (left refl)
around_some (text ∷ texts) left = omega arith

reads_some : (source : Source) → SomethingIn source → 0 < most_reads source
reads_some source (inl h) = omega (arith, some_there source.rest h)
reads_some source (inr (inl h)) = omega (arith, some_there source.blocks h)
reads_some source (inr (inr h)) = omega (arith, around_some source.around h)

regions_some : (m : Expander) (source : Source) → SomethingLeft m source → 0 < total (regions m (of_source source))
regions_some m source (inl h) = holding_some m.held (regions_of m.frames (most_reads source)) h
regions_some m source (inr (inl h)) = holding_more m.held (regions_of m.frames (most_reads source)) (frames_some m.frames (most_reads source) (inl h))
regions_some m source (inr (inr h)) =
    holding_more m.held (regions_of m.frames (most_reads source)) (frames_some m.frames (most_reads source) (inr (reads_some source h)))

-- where something is left, there is something to do
pub left_is_work : (levels : ℕ) (m : Expander) (source : Source) → SomethingLeft m source → 0 < work_of levels m (of_source source)
left_is_work levels m source left =
    let r = of_source source in
    let xs = regions m r in
    let up = through_up (frame_steps (most_bodies r) (most_open r) levels) (most_open r) xs (total xs) in
    omega (arith, up, regions_some m source left)

-- where nothing is left, there is nothing to do
pub no_work : (levels : ℕ) (m : Expander) (source : Source) → m.held ≡ None → m.frames ≡ [] → source.rest ≡ [] → source.blocks ≡ [] → source.around ≡ []
    → work_of levels m (of_source source) ≡ 0
no_work levels m source free closed e f g =
    let r = of_source source in
    let reads : most_reads source ≡ 0 = omega (arith, ap length e, ap length f, ap reads_around g) in
    let xs : regions m r ≡ 0 ∷ [] = ap (λ (o : Option (PlacedStep Read)). holding_step o (regions_of m.frames (most_reads source))) free
    ∙ ap (λ (fs : List Frame). regions_of fs (most_reads source)) closed ∙ ap (λ (k : ℕ). k ∷ []) reads in
    ap (work_in (frame_steps (most_bodies r) (most_open r) levels) (most_open r)) xs

-- no step is more work
through_none : (frame : ℕ → ℕ) (names : ℕ) (xs : List ℕ) → total xs ≡ 0 → through frame names xs 0 ≡ 0
through_none frame names [] e = refl
through_none frame names (s ∷ rest) e =
    let none : s ≡ 0 = omega arith in
    let none_after : total rest ≡ 0 = omega arith in
    subst (λ (k : ℕ). through frame names rest (iterate (growth frame (names - length rest)) k 0) ≡ 0) (sym none) (through_none frame names rest none_after)

no_steps : (frame : ℕ → ℕ) (names : ℕ) (xs : List ℕ) → total xs ≡ 0 → work_in frame names xs ≡ 0
no_steps frame names xs e = subst (λ (k : ℕ). through frame names xs k ≡ 0) (sym e) (through_none frame names xs e)

-- where there is nothing to do, there is nothing to do either in a source of which as much is left
pub no_more_work : (levels : ℕ) (m : Expander) (old new : Source) → most_reads new ≡ most_reads old → work_of levels m (of_source old) ≡ 0
    → work_of levels m (of_source new) ≡ 0
no_more_work levels m old new same e =
    let r = of_source old in
    let s = of_source new in
    let up = through_up (frame_steps (most_bodies r) (most_open r) levels) (most_open r) (regions m r) (total (regions m r)) in
    let none : total (regions m r) ≡ 0 = omega (arith, up, e) in
    let regions_same : regions m s ≡ regions m r = ap (λ (k : ℕ). holding_step m.held (regions_of m.frames k)) same in
    no_steps (frame_steps (most_bodies s) (most_open s) levels) (most_open s) (regions m s) (ap total regions_same ∙ none)
