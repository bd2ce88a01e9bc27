-- Calls that are finished, as the code finishes them.
use Rattle.std.proofs.Common.{◌≡◌, ◌≢◌, ℕ, ◌+◌, ◌-◌, ◌≤◌, arith, ap, All, List, [], ◌∷◌, ◌++◌, length, refl, sym, subst, None, le_trans, true, false, Bool, Option}
use Rattle.std.specs.Prelude.{if◌then◌else◌, Result, Ok, Err, IfOk, ◌&&◌, ◌==◌}
use Rattle.std.proofs.lemmas.List.Elements.{All-cons, All-nil, All-append}
use Rattle.pp_model.specs.Places.{PlacedFault, fault_in}
use Rattle.pp_model.specs.declared.splice.CallPlace.{CallPlace}
use Rattle.pp_model.specs.declared.read.Read.{Read}
use Rattle.pp_model.specs.Names.{Name}
use Rattle.pp_model.specs.Calls.{pieces, arguments_of, misfit, cut_before, Pieces, is_comma, nesting_after}
use Rattle.pp_model.specs.Emitting.{answers_at}
use Rattle.pp_model.proofs.calls.LevelLemmas as level
use Rattle.pp_macros.specs.Halting.{halt_of, result_in}
use Rattle.pp_macros.specs.Item.{is_out_of_memory}
use Rattle.pp_macros.specs.inner.Calling.{MacroCall}
use Rattle.pp_macros.specs.inner.Defined.{Defined, body_tokens}
use Rattle.pp_macros.specs.inner.Finishing.{site_at, Finishes, ExpandsEach, AreOfCall}
use Rattle.pp_macros.specs.inner.Frames.{names_of}
use Rattle.pp_macros.specs.inner.Left.{most_alone}
use Rattle.pp_macros.specs.inner.Expander.{Expander, Satisfies}
use Rattle.pp_macros.specs.inner.Noting.{noted, noted_halt}
use Rattle.pp_macros.specs.declared.halt.Halted.{Halted}
use Rattle.pp_macros.specs.declared.halt.PlacedHalt.{PlacedHalt}
use Rattle.pp_macros.specs.declared.halt.PlacedHalt.TheVariants as halt
use Rattle.pp_macros.specs.inner.Reach.{frame_steps}
use Rattle.pp_macros.proofs.work.ReachLemmas.{most_level, frame_steps_level}
use Rattle.pp_model.specs.declared.numbering.Numbering.{Numbering}

-- without a value there is the fault that was noted, if one was
pub noted_err : {A : Type 0} (r : Result A Halted) (h : Halted) (fault : Option PlacedFault) → r ≡ Err h → noted r fault ≡ Err (noted_halt fault)
noted_err {A} r h fault is = ap (λ (x : Result A Halted). noted x fault) is

-- a fault is passed on, where it is the fault of the whole
pub satisfies_exit : {A : Type 0} (r : Result A PlacedHalt) (h : PlacedHalt) (P : Result A PlacedFault → Type 0) → r ≡ Err h
    → ((fault : PlacedFault) → h ≡ halt.Fault fault → P (Err fault)) → Satisfies r P
satisfies_exit {A} r (halt.Fault fault) P is passes = subst (λ (x : Result A PlacedHalt). Satisfies x P) (sym is) (passes fault refl)
satisfies_exit {A} r halt.OutOfMemory P is passes = subst (λ (x : Result A PlacedHalt). Satisfies x P) (sym is) tt

-- the same in a call
pub satisfies_exit_in : {A : Type 0} (k : Option CallPlace) (r : Result A PlacedHalt) (h : PlacedHalt) (P : Result A PlacedFault → Type 0) → r ≡ Err h
    → ((fault : PlacedFault) → h ≡ halt.Fault fault → P (Err (fault_in k fault))) → Satisfies (result_in k r) P
satisfies_exit_in {A} k r (halt.Fault fault) P is passes = subst (λ (x : Result A PlacedHalt). Satisfies (result_in k x) P) (sym is) (passes fault refl)
satisfies_exit_in {A} k r halt.OutOfMemory P is passes = subst (λ (x : Result A PlacedHalt). Satisfies (result_in k x) P) (sym is) tt

-- the fault of a step, unless it is that memory was refused
pub satisfies_fault : {A : Type 0} (h : PlacedHalt) (fault : PlacedFault) (P : Result A PlacedFault → Type 0) → h ≡ halt_of fault
    → (is_out_of_memory fault.0 ≡ false → P (Err fault)) → Satisfies {A = A} (Err h) P
satisfies_fault {A} h fault P is passes = subst (λ (x : PlacedHalt). Satisfies {A = A} (Err x) P) (sym is) (decided (is_out_of_memory fault.0) refl)
  where
    decided : (refused : Bool) → is_out_of_memory fault.0 ≡ refused → Satisfies {A = A} (Err (if refused then halt.OutOfMemory else halt.Fault fault)) P
    decided true heard = tt
    decided false heard = passes heard

pub fault_of : {A : Type 0} (h : PlacedHalt) (fault : PlacedFault) (P : Result A PlacedFault → Type 0) → h ≡ halt.Fault fault → Satisfies {A = A} (Err h) P → P (Err fault)
fault_of {A} h fault P e s = let k : Satisfies {A = A} (Err (halt.Fault fault)) P = subst (λ (x : PlacedHalt). Satisfies {A = A} (Err x) P) e s in k

pub finish_fault : (levels : ℕ) (numbering : Numbering) (definitions : List Defined) (hidden : List Name) (call : MacroCall) (old new : Expander) (h : PlacedHalt) (fault : PlacedFault)
    → h ≡ halt.Fault fault → Finishes levels numbering definitions hidden call old (Err h) new
    → answers_at levels call.opened.definition (site_at call numbering definitions (names_of old.frames ++ hidden)) (Err fault)
finish_fault levels numbering definitions hidden call old new h fault e s =
    let k : Finishes levels numbering definitions hidden call old (Err (halt.Fault fault)) new =
    subst (λ (x : PlacedHalt). Finishes levels numbering definitions hidden call old (Err x) new) e s in k.0

-- after a fault the same macros are open
pub finish_left : (levels : ℕ) (numbering : Numbering) (definitions : List Defined) (hidden : List Name) (call : MacroCall) (old new : Expander) (h : PlacedHalt) (fault : PlacedFault)
    → h ≡ halt.Fault fault → Finishes levels numbering definitions hidden call old (Err h) new → new ≡ old
finish_left levels numbering definitions hidden call old new h fault e s =
    let k : Finishes levels numbering definitions hidden call old (Err (halt.Fault fault)) new =
    subst (λ (x : PlacedHalt). Finishes levels numbering definitions hidden call old (Err x) new) e s in k.1

-- no piece is longer than the tokens
pub pieces_short : (n : ℕ) (tokens : List Read) → (length (pieces n tokens).first ≤ length tokens)
    × All (λ (a : List Read). length a ≤ length tokens) (pieces n tokens).others
pieces_short n [] = (omega arith, All-nil (λ (a : List Read). length a ≤ 0))
pieces_short n (read ∷ tokens) = cut (is_comma read.token.value && (n == 0)) (pieces (nesting_after n read.token.value) tokens)
    (pieces_short (nesting_after n read.token.value) tokens)
  where
    cut : (b : Bool) (ps : Pieces) → (length ps.first ≤ length tokens) × All (λ (a : List Read). length a ≤ length tokens) ps.others
        → (length (cut_before b read ps).first ≤ length (read ∷ tokens))
        × All (λ (a : List Read). length a ≤ length (read ∷ tokens)) (cut_before b read ps).others
    cut true ps h = (
      omega arith,
      All-cons (λ (a : List Read). length a ≤ length (read ∷ tokens)) ps.first ps.others (let k = h.0 in
          omega arith) (λ k d inside. let low = h.1 k d inside in omega arith),
    )
    cut false ps h = (let k = h.0 in omega arith, λ k d inside. let low = h.1 k d inside in omega arith)

-- what the arguments come to is what the call comes to, where their number fits
pub answers_each : (levels : ℕ) (numbering : Numbering) (definitions : List Defined) (around : List Name) (call : MacroCall) → levels ≢ 0
    → misfit call.opened.definition.parameters (arguments_of call.tokens) ≡ None → (out : Result (List (List Read)) PlacedFault)
    → ExpandsEach (levels - 1) numbering definitions around (arguments_of call.tokens) out
    → answers_at levels call.opened.definition (site_at call numbering definitions around) out
answers_each levels numbering definitions around call some fits out expands =
    level.answers_each levels call.opened.definition (site_at call numbering definitions around) out some fits expands.each

-- no argument of a call is longer than what all of its tokens may come to
pub of_call : (levels : ℕ) (numbering : Numbering) (definitions : List Defined) (around : List Name) (call : MacroCall) (r : Result (List (List Read)) Halted) (fault : Option PlacedFault)
    → Satisfies (noted r fault) (ExpandsEach (levels - 1) numbering definitions around (arguments_of call.tokens)) → IfOk r (AreOfCall levels definitions call)
of_call levels numbering definitions around call (Ok arguments) fault expands = let here = pieces_short 0 call.tokens in
    expands.least (length call.tokens) (All-cons (λ (a : List Read). length a ≤ length call.tokens) (pieces 0 call.tokens).first
    (pieces 0 call.tokens).others here.0 here.1)
of_call levels numbering definitions around call (Err h) fault expands = tt

-- what a search gives satisfies what follows from it
pub satisfies_more : {A : Type 0} (r : Result A PlacedHalt) (P Q : Result A PlacedFault → Type 0) → ((out : Result A PlacedFault) → P out → Q out)
    → Satisfies r P → Satisfies r Q
satisfies_more (Ok value) P Q follows has = follows (Ok value) has
satisfies_more (Err (halt.Fault fault)) P Q follows has = follows (Err fault) has
satisfies_more (Err halt.OutOfMemory) P Q follows has = tt

-- a call that has no arguments ends with what they ended with
pub finishes_without : (levels : ℕ) (numbering : Numbering) (definitions : List Defined) (hidden : List Name) (call : MacroCall) (old new : Expander)
    (r : Result (Unit {0}) PlacedHalt) (h : PlacedHalt) → r ≡ Err h
    → Satisfies {A = List (List Read)} (Err h) (answers_at levels call.opened.definition (site_at call numbering definitions (names_of old.frames ++ hidden)))
    → new ≡ old → Finishes levels numbering definitions hidden call old r new
finishes_without levels numbering definitions hidden call old new r (halt.Fault fault) is has same =
    subst (λ (x : Result (Unit {0}) PlacedHalt). Finishes levels numbering definitions hidden call old x new) (sym is) (has, same)
finishes_without levels numbering definitions hidden call old new r halt.OutOfMemory is has same =
    subst (λ (x : Result (Unit {0}) PlacedHalt). Finishes levels numbering definitions hidden call old x new) (sym is) tt

-- one more list, no longer than it may be
pub short_more : (most : ℕ) (lists more : List (List Read)) (list : List Read) → All (λ (a : List Read). length a ≤ most) lists
    → length list ≤ most → more ≡ lists ++ list ∷ [] → All (λ (a : List Read). length a ≤ most) more
short_more most lists more list all low is = rw is (All-append (λ (a : List Read). length a ≤ most) lists (list ∷ []) all
    (All-cons (λ (a : List Read). length a ≤ most) list [] low (All-nil (λ (a : List Read). length a ≤ most))))

-- what an argument came to, where no argument has more tokens than this
pub short_list : (levels : ℕ) (definitions : List Defined) (n : ℕ) (tokens list : List Read) → length tokens ≤ n
    → length list ≤ most_alone levels definitions (length tokens) → length list ≤ most_alone levels definitions n
short_list levels definitions n tokens list few low =
    let names = length definitions + 1 in
    le_trans low (most_level (frame_steps (body_tokens definitions) names levels) names (frame_steps_level (body_tokens definitions) names levels)
    (length tokens) n few)
