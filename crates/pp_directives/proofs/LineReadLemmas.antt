-- What is read of a line, as the code reads it: parts of it read one after the other, and faults that are passed on.
use Rattle.std.proofs.Common.{◌≡◌, ◌∙◌, ap, ℕ, ◌≤◌, arith, Bool, true, false, List, [], ◌++◌, refl, sym, subst, le_trans, Option, Some, None}
use Rattle.std.specs.Prelude.{if◌then◌else◌, Result, Ok, Err}
use Rattle.pp_model.specs.Places.{PlacedFault, fault_in}
use Rattle.pp_model.specs.declared.read.Read.{Read}
use Rattle.pp_model.specs.Reading.{Expander, Listed}
use Rattle.pp_model.specs.declared.splice.CallPlace.{CallPlace}
use Rattle.pp_macros.specs.inner.Calling.{MacroCall}
use Rattle.pp_macros.specs.inner.CallTurns.{TurnsTo, TurnsOrRefuses}
use Rattle.pp_macros.specs.inner.Finishing.{Finishes, IsOpened}
use Rattle.pp_macros.specs.inner.Frames.{names_of, outermost_frame_call}
use Rattle.pp_macros.specs.inner.Defined.{Defined}
use Rattle.pp_macros.specs.Halting.{halt_in, halt_of}
use Rattle.pp_macros.specs.Item.{PlacedStep, is_out_of_memory}
use Rattle.pp_macros.specs.inner.Left.{work_of}
use Rattle.pp_directives.specs.inner.LineItems.{FindsItem, IsOnLine, IsWorkLess, ReadsOfLine, ReadsOn, ReadsItem, ReadsTaken, expander_of, taken_of_item}
use Rattle.pp_directives.specs.declared.line_words.LineItem.{LineItem}
use Rattle.pp_macros.specs.inner.Expander as kept
use Rattle.pp_macros.specs.inner.Expander.{TakesNext, kept_call}
use Rattle.pp_macros.specs.inner.Reader.{of_list, Listing}
use Rattle.pp_macros.specs.declared.calls.Taken.{Taken}
use Rattle.pp_macros.specs.declared.calls.Taken.TheVariants as taken
use Rattle.pp_macros.specs.declared.step.PlacedExit.TheVariants.{Error, Continue, Finished}
use Rattle.pp_directives.proofs.LineTurnLemmas.{GoesOn, token_read, pause_read, end_read, fault_read, call_read, call_fault_read, next_no_fault}
use Rattle.pp_macros.proofs.taking.ListedLeadsLemmas.{turned}
use Rattle.pp_macros.proofs.open_frames.ReportedLemmas.{wants_taken}
use Rattle.pp_macros.specs.declared.halt.PlacedHalt.{PlacedHalt}
use Rattle.pp_macros.specs.declared.halt.PlacedHalt.TheVariants as halt
use Rattle.pp_model.specs.declared.numbering.Numbering.{Numbering}

module _ (levels : ℕ) (numbering : Numbering) (definitions : List Defined) (m : kept.Expander) (l : Listing) where
  -- the fault of a step in this call, unless memory was refused
  pub reads_fault : {T : Type 0} (P : Result T PlacedFault → Expander Listed → Type 0) (call : Option CallPlace) (h found : PlacedHalt) (n : kept.Expander) (k : Listing)
      (fault : PlacedFault) → found ≡ halt_in call h → h ≡ halt_of fault → (is_out_of_memory fault.0 ≡ false → (f : Expander Listed) × P (Err (fault_in call fault)) f)
      → ReadsOfLine {T = T} levels numbering definitions m l P (Err found) n k
  reads_fault {T} P call h found n k fault within is passes =
      subst (λ (x : PlacedHalt). ReadsOfLine {T = T} levels numbering definitions m l P (Err x) n k) (sym (within ∙ ap (halt_in call) is))
      (go (is_out_of_memory fault.0) refl)
    where
      go : (b : Bool) → is_out_of_memory fault.0 ≡ b
          → ReadsOfLine {T = T} levels numbering definitions m l P (Err (halt_in call (if b then halt.OutOfMemory else halt.Fault fault))) n k
      go true e = tt
      go false e = passes e

  -- what was read before has a fault, which is that of the whole
  pub reads_broken : {T U : Type 0} (P : Result T PlacedFault → Expander Listed → Type 0) (Q : Result U PlacedFault → Expander Listed → Type 0)
      (h : PlacedHalt) (n p : kept.Expander) (k q : Listing) (r : Result U PlacedHalt) → r ≡ Err h
      → ((fault : PlacedFault) (f : Expander Listed) → P (Err fault) f → Q (Err fault) f) → ReadsOfLine {T = T} levels numbering definitions m l P (Err h) n k
      → ReadsOfLine {T = U} levels numbering definitions m l Q r p q
  reads_broken {T} {U} P Q h n p k q r is on reads = subst (λ (x : Result U PlacedHalt). ReadsOfLine {T = U} levels numbering definitions m l Q x p q) (sym is) (go h reads)
    where
      go : (h : PlacedHalt) → ReadsOfLine {T = T} levels numbering definitions m l P (Err h) n k → ReadsOfLine {T = U} levels numbering definitions m l Q (Err h) p q
      go (halt.Fault fault) reads = (reads.0, on fault reads.0 reads.1)
      go halt.OutOfMemory reads = tt

  -- what is read after something that was read
  pub reads_then : {T : Type 0} (P Q : Result T PlacedFault → Expander Listed → Type 0) (n p : kept.Expander) (k q : Listing) (r : Result T PlacedHalt)
      → ReadsOn levels numbering definitions m l n k → ((x : Result T PlacedFault) (f : Expander Listed) → P x f → Q x f)
      → ReadsOfLine {T = T} levels numbering definitions n k P r p q → ReadsOfLine {T = T} levels numbering definitions m l Q r p q
  reads_then P Q n p k q (Ok value) before on (read, after) =
      (on (Ok value) _ read, record { stands = after.stands; least = le_trans after.least before.least })
  reads_then P Q n p k q (Err (halt.Fault fault)) before on (f, read) = (f, on (Err fault) f read)
  reads_then P Q n p k q (Err halt.OutOfMemory) before on reads = tt

-- a fault where the next token was to be taken is that memory was refused
pub taken_fault : (levels : ℕ) (numbering : Numbering) (definitions : List Defined) (m : kept.Expander) (l : Listing) → IsOnLine numbering definitions m l
    → (n : kept.Expander) (k : Listing) (fault : PlacedFault) (h : PlacedHalt) → TakesNext m (of_list l) (Err (Error fault)) n (of_list k) → h ≡ halt_of fault
    → ReadsTaken levels numbering definitions m l (Err h) n k
taken_fault levels numbering definitions m l on n k fault h next is =
    subst (λ (x : PlacedHalt). ReadsTaken levels numbering definitions m l (Err x) n k) (sym is) (go (is_out_of_memory fault.0) refl)
  where
    go : (b : Bool) → is_out_of_memory fault.0 ≡ b → ReadsTaken levels numbering definitions m l (Err (if b then halt.OutOfMemory else halt.Fault fault)) n k
    go true e = tt
    go false e = next_no_fault m n l k fault on.holds next e

-- What the search for the next item has reached: the items from here on are those from the beginning on.
pub record ItemsOn (levels : ℕ) (numbering : Numbering) (definitions : List Defined) (m : kept.Expander) (l : Listing) (n : kept.Expander) (k : Listing) : Type 0 where
  pub goes_on : GoesOn levels m l n k
  pub stands : IsOnLine numbering definitions n k
  pub least : work_of levels n (of_list k) ≤ work_of levels m (of_list l)

pub items_start : (levels : ℕ) (numbering : Numbering) (definitions : List Defined) (m : kept.Expander) (l : Listing) → IsOnLine numbering definitions m l → ItemsOn levels numbering definitions m l m l
items_start levels numbering definitions m l on = record { goes_on = λ o g emits. (emits, refl); stands = on; least = omega arith }

module _ (levels : ℕ) (numbering : Numbering) (definitions : List Defined) (m : kept.Expander) (l : Listing) (n : kept.Expander) (k : Listing) (on : ItemsOn levels numbering definitions m l n k)
    (p : kept.Expander) (q : Listing) where
  itself : (step : PlacedStep Taken) → TurnsOrRefuses n (of_list k) step p (of_list q) → wants_taken step ≡ false → TurnsTo n (of_list k) step p (of_list q)
  itself step turns reported = turned n p (of_list k) (of_list q) step turns reported

  -- what is found from here on is found from the beginning on
  found_before : (item : Result LineItem PlacedFault) (f : Expander Listed) → FindsItem levels (expander_of n k) item f → FindsItem levels (expander_of m l) item f
  found_before item f found = let first = on.goes_on (taken_of_item item) f found.0 in (first.0, first.1 ∙ found.1)

  pub items_token : (read : Read) (before call : Option CallPlace) → TurnsOrRefuses n (of_list k) (Ok (taken.Token read)) p (of_list q)
      → before ≡ outermost_frame_call n.frames → call ≡ kept_call p.held before p.frames
      → ReadsItem levels numbering definitions m l (Ok (record { found = Some read; call = call })) p q
  items_token read before call turns was is =
      let h = token_read levels numbering definitions n p k q on.stands read (itself (Ok (taken.Token read)) turns refl) in
      let less : IsWorkLess levels n k p q = h.2 in
      let called = kept_call p.held (outermost_frame_call n.frames) p.frames in
      let same : call ≡ called = is ∙ ap (λ (o : Option CallPlace). kept_call p.held o p.frames) was in
      rw same (
        found_before (Ok (record { found = Some read; call = called })) (expander_of p q) h.0,
        record { stands = h.1; least = omega (arith, on.least, less) },
      )

  pub items_token_less : (read : Read) → TurnsOrRefuses n (of_list k) (Ok (taken.Token read)) p (of_list q) → IsWorkLess levels m l p q
  items_token_less read turns =
      let less : IsWorkLess levels n k p q = (token_read levels numbering definitions n p k q on.stands read (itself (Ok (taken.Token read)) turns refl)).2 in
      omega (arith, on.least, less)

  pub items_end : (call : Option CallPlace) → TurnsOrRefuses n (of_list k) (Err Finished) p (of_list q) → call ≡ outermost_frame_call p.frames
      → ReadsItem levels numbering definitions m l (Ok (record { found = None; call = call })) p q
  items_end call turns is =
      let h = end_read levels numbering definitions n p k q on.stands (itself (Err Finished) turns refl) in
      let after : ReadsOn levels numbering definitions n k p q = h.1 in
      rw is (
        found_before (Ok (record { found = None; call = outermost_frame_call p.frames })) (expander_of p q) h.0,
        record { stands = after.stands; least = omega (arith, on.least, after.least) },
      )

  -- a part of the line was passed, and the items go on
  passed : (p : kept.Expander) → GoesOn levels n k p q → IsOnLine numbering definitions p q → IsWorkLess levels n k p q → ItemsOn levels numbering definitions m l p q
  passed p goes stands less = record {
    goes_on = λ o g emits. let second = goes o g emits in
        let first = on.goes_on o g second.0 in
        (first.0, first.1 ∙ second.1);
    stands = stands;
    least = omega (arith, on.least, less);
  }

  pub items_pause : TurnsOrRefuses n (of_list k) (Err Continue) p (of_list q) → ItemsOn levels numbering definitions m l p q
  items_pause turns =
      let h = pause_read levels numbering definitions n p k q on.stands (itself (Err Continue) turns refl) in
      passed p h.0 h.1 h.2

  pub items_pause_less : TurnsOrRefuses n (of_list k) (Err Continue) p (of_list q) → IsWorkLess levels n k p q
  items_pause_less turns = (pause_read levels numbering definitions n p k q on.stands (itself (Err Continue) turns refl)).2

  pub items_fault : (fault : PlacedFault) (h found : PlacedHalt) → TurnsOrRefuses n (of_list k) (Err (Error fault)) p (of_list q)
      → found ≡ halt_in (outermost_frame_call p.frames) h → h ≡ halt_of fault
      → ReadsItem levels numbering definitions m l (Err found) p q
  items_fault fault h found turns within is =
      reads_fault levels numbering definitions m l (FindsItem levels (expander_of m l)) (outermost_frame_call p.frames) h found p q fault within is
      (λ reported. let read = fault_read levels numbering definitions n p k q on.stands fault (itself (Err (Error fault)) turns reported) reported in
      (read.0, found_before (Err (fault_in (outermost_frame_call p.frames) fault)) read.0 read.1))

  module _ (c : MacroCall) (turns : TurnsOrRefuses n (of_list k) (Ok (taken.Call c)) p (of_list q)) where
    call : TurnsTo n (of_list k) (Ok (taken.Call c)) p (of_list q)
    call = itself (Ok (taken.Call c)) turns refl

    pub items_call : (u : kept.Expander) → IsOpened levels numbering definitions (names_of p.frames ++ []) c p u → ItemsOn levels numbering definitions m l u q
    items_call u opened =
        let h = call_read levels numbering definitions n p k q on.stands c call u opened in
        passed u h.0 h.1 h.2

    pub items_call_less : (u : kept.Expander) → IsOpened levels numbering definitions (names_of p.frames ++ []) c p u → IsWorkLess levels n k u q
    items_call_less u opened = (call_read levels numbering definitions n p k q on.stands c call u opened).2

    pub items_call_fault : (u : kept.Expander) (h found : PlacedHalt) → Finishes levels numbering definitions [] c p (Err h) u
        → found ≡ halt_in (outermost_frame_call u.frames) h
        → ReadsItem levels numbering definitions m l (Err found) u q
    items_call_fault u h found finishes within =
        subst (λ (x : PlacedHalt). ReadsItem levels numbering definitions m l (Err x) u q) (sym within) (go h finishes)
      where
        go : (h : PlacedHalt) → Finishes levels numbering definitions [] c p (Err h) u
            → ReadsItem levels numbering definitions m l (Err (halt_in (outermost_frame_call u.frames) h)) u q
        go (halt.Fault fault) finishes =
            let read = call_fault_read levels numbering definitions n p k q on.stands c call fault finishes.0 in
            rw finishes.1 (read.0, found_before (Err (fault_in (outermost_frame_call p.frames) fault)) read.0 read.1)
        go halt.OutOfMemory finishes = tt
