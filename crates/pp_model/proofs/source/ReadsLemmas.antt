-- A step of reading a source has one outcome, and so has reading, if the answers have one.
use Rattle.std.proofs.Common.{◌≡◌, ◌∙◌, sym, subst, Option, Some, None, ◌⊎◌, inl, inr}
use Rattle.std.specs.Prelude.{ℕ, pos, ◌-ℤ◌, Bool, Result, Ok, Err}
use Rattle.pp_model.specs.declared.read.Taken.{Taken}
use Rattle.pp_model.specs.Places.{PlacedFault, in_text}
use Rattle.pp_model.specs.Definitions.{Definition}
use Rattle.pp_model.specs.Calls.{Answers}
use Rattle.pp_model.specs.SourceReader.{SourceReader}
use Rattle.pp_model.specs.Acts.{Acted, act, decided}
use Rattle.pp_model.specs.Reads.{Defines, Evaluated, Does, Steps, Reads, here, later, source_reading, numbered_line}
use Rattle.pp_model.specs.inner.Reads.{after_define}
use Rattle.pp_model.specs.ExpansionLaws.{OneReads, OneAnswer}
use Rattle.pp_model.specs.RunLaws.{OneStep}
use Rattle.pp_model.specs.declared.definition.Named.{Named}
use Rattle.pp_model.specs.Painting.{taken_of}
use Rattle.pp_model.specs.declared.read.Taken.TheVariants as taken
use Rattle.pp_model.specs.declared.step.Step.{Step}
use Rattle.pp_model.specs.declared.step.Step.TheVariants as step
use Rattle.pp_model.proofs.taking.TakingLemmas.{one_pair}
use Rattle.pp_model.proofs.values.LineValueLemmas.{one_condition, one_line_number}
use Rattle.pp_model.specs.Numbering.{list_numbering}

one_define : (text : ℕ) (named : Named) (defined : Option Definition) (after : SourceReader) (x y : Option Taken) (s t : SourceReader)
    → Defines text named defined after x s → Defines text named defined after y t → (x ≡ y) × (s ≡ t)
one_define text named None after x y s t a b = one_pair a b
one_define text named (Some old) after x y s t (p, inl a) (q, inl b) = (a.1 ∙ sym b.1, p ∙ sym q)
one_define text named (Some old) after x y s t (p, inl a) (q, inr b) = absurd (b.0 a.0)
one_define text named (Some old) after x y s t (p, inr a) (q, inl b) = absurd (a.0 b.0)
one_define text named (Some old) after x y s t (p, inr a) (q, inr b) = (a.1 ∙ sym b.1, p ∙ sym q)

one_evaluated : {V : Type 0} (v w : Result V PlacedFault) (next : V → SourceReader) (r : SourceReader) (x y : Option Taken) (s t : SourceReader) → v ≡ w
    → Evaluated v next r x s → Evaluated w next r y t → (x ≡ y) × (s ≡ t)
one_evaluated v w next r x y s t same a b = go v a (subst (λ u. Evaluated u next r y t) (sym same) b)
  where
    go : (u : Result _ PlacedFault) → Evaluated u next r x s → Evaluated u next r y t → (x ≡ y) × (s ≡ t)
    go (Ok value) a b = one_pair a b
    go (Err fault) a b = one_pair a b

module _ (A : Answers) (single : OneAnswer A) where
  pub one_outcome : (did : Step) (after r : SourceReader) (x y : Option Taken) (s t : SourceReader) → Does A r did after x s
      → Does A r did after y t → (x ≡ y) × (s ≡ t)
  one_outcome step.Passed after r x y s t a b = one_pair a b
  one_outcome (step.Given z) after r x y s t a b = one_pair a b
  one_outcome (step.Defines named) after r x y s t a b = one_define r.text named (r.definitions named.name) after x y s t a b
  one_outcome (step.Condition word tokens) after r x y s t a b =
      one_evaluated a.0 b.0 (λ holds. decided r.position holds after) r x y s t
      (one_condition A single (in_text r.text word) tokens (list_numbering r.rules r.line_offset) r.definitions a.0 b.0 a.1 b.1) a.2 b.2
  one_outcome (step.LineNumber word tokens) after r x y s t a b =
      one_evaluated a.0 b.0 (λ n. record after { line_offset = pos n -ℤ pos (numbered_line r.rules word.line) }) r x y s t
      (one_line_number A single (in_text r.text word) tokens (list_numbering r.rules r.line_offset) r.definitions a.0 b.0 a.1 b.1) a.2 b.2

  pub one_step : OneStep A
  one_step r x y s t a b = one_outcome (act r).step (act r).after r x y s t a b

  -- so reading passes one outcome next
  pub source_reads_one : OneReads (source_reading A)
  source_reads_one r x y s t (here x1 r1 s1 a) (here y1 r2 t1 b) =
      let same = one_step r (Some x) (Some y) s t a b in
      let given : x ≡ y = (let z = same.0 in cc) in
      (given, same.1)
  source_reads_one r x y s t (here x1 r1 s1 a) (later y1 r2 v t1 b k) = let bad = (one_step r (Some x) None s v a b).0 in cc
  source_reads_one r x y s t (later x1 r1 u s1 a h) (here y1 r2 t1 b) = let bad = (one_step r None (Some y) u t a b).0 in cc
  source_reads_one r x y s t (later x1 r1 u s1 a h) (later y1 r2 v t1 b k) =
      let same = one_step r None None u v a b in
      let k1 : Reads A u y t = rw same.1 k in
      source_reads_one u x y s t h k1

-- A step does what its act says: by the act's step,
pub does_that : (A : Answers) (did : Step) (r : SourceReader) (o : Option Taken) (t : SourceReader) → (act r).step ≡ did → Steps A r o t
    → Does A r did (act r).after o t
does_that A did r o t h s = subst (λ z. Does A r z (act r).after o t) h s

-- the other way,
pub that_does : (A : Answers) (did : Step) (r : SourceReader) (o : Option Taken) (t : SourceReader) → (act r).step ≡ did
    → Does A r did (act r).after o t → Steps A r o t
that_does A did r o t h d = subst (λ z. Does A r z (act r).after o t) (sym h) d

-- and by the whole act.
pub act_does : (A : Answers) (did : Step) (after r : SourceReader) (o : Option Taken) (t : SourceReader) → act r ≡ record { step = did; after = after }
    → Does A r did after o t → Steps A r o t
act_does A did after r o t e d = subst (λ (a : Acted). Does A r a.step a.after o t) (sym e) d

-- where the act defines a name, the step comes to what the old definition says
pub defines_that : (A : Answers) (named : Named) (old : Option Definition) (r : SourceReader) (o : Option Taken) (t : SourceReader)
    → (act r).step ≡ step.Defines named → r.definitions named.name ≡ old → Steps A r o t → Defines r.text named old (act r).after o t
defines_that A named old r o t h k s = subst (λ z. Defines r.text named z (act r).after o t) k (does_that A (step.Defines named) r o t h s)

-- what a step gives: what its act does, and otherwise nothing or a fault
abbrev pub GivenBy : ℕ → Step → Option Taken → Type 0
GivenBy text (step.Given x) o = o ≡ Some (taken_of text x)
GivenBy text _ o = (o ≡ None) ⊎ ((fault : PlacedFault) × (o ≡ Some (taken.Fault fault)))

-- it holds of each reader that a step may leave
abbrev pub HoldsAfter : (SourceReader → Type 0) → SourceReader → Step → SourceReader → Type 0
HoldsAfter P r (step.Defines named) after = P after × P (after_define named after)
HoldsAfter P r (step.Condition word tokens) after = P r × ((holds : Bool) → P (decided r.position holds after))
HoldsAfter P r (step.LineNumber word tokens) after = P r × ((n : ℕ) → P (record after { line_offset = pos n -ℤ pos (numbered_line r.rules word.line) }))
HoldsAfter P r _ after = P after

module _ (A : Answers) (r : SourceReader) (o : Option Taken) (t : SourceReader) where
  define_gives : (named : Named) (old : Option Definition) (after : SourceReader) → Defines r.text named old after o t → GivenBy r.text (step.Defines named) o
  define_gives named None after d = inl d.0
  define_gives named (Some old) after (p, inl d) = inl d.1
  define_gives named (Some old) after (p, inr d) = inr (_, d.1)

  line_gives : {V : Type 0} (v : Result V PlacedFault) (next : V → SourceReader) → Evaluated v next r o t → GivenBy r.text step.Passed o
  line_gives (Ok value) next d = inl d.0
  line_gives (Err fault) next d = inr (_, d.0)

  pub given_by : (did : Step) (after : SourceReader) → Does A r did after o t → GivenBy r.text did o
  given_by step.Passed after d = inl d.0
  given_by (step.Given x) after d = d.0
  given_by (step.Defines named) after d = define_gives named (r.definitions named.name) after d
  given_by (step.Condition word tokens) after d = line_gives d.0 (λ holds. decided r.position holds after) d.2
  given_by (step.LineNumber word tokens) after d = line_gives d.0 (λ n. record after { line_offset = pos n -ℤ pos (numbered_line r.rules word.line) }) d.2

  module _ (P : SourceReader → Type 0) where
    define_leaves : (named : Named) (old : Option Definition) (after : SourceReader) → HoldsAfter P r (step.Defines named) after
        → Defines r.text named old after o t → P t
    define_leaves named None after h d = subst P (sym d.1) h.1
    define_leaves named (Some old) after h d = subst P (sym d.0) h.0

    line_leaves : {V : Type 0} (v : Result V PlacedFault) (next : V → SourceReader) → P r → ((value : V) → P (next value)) → Evaluated v next r o t → P t
    line_leaves (Ok value) next h k d = subst P (sym d.1) (k value)
    line_leaves (Err fault) next h k d = subst P (sym d.1) h

    -- so it holds of the reader after the step
    pub holds_after : (did : Step) (after : SourceReader) → HoldsAfter P r did after → Does A r did after o t → P t
    holds_after step.Passed after h d = subst P (sym d.1) h
    holds_after (step.Given x) after h d = subst P (sym d.1) h
    holds_after (step.Defines named) after h d = define_leaves named (r.definitions named.name) after h d
    holds_after (step.Condition word tokens) after h d = line_leaves d.0 (λ holds. decided r.position holds after) h.0 h.1 d.2
    holds_after (step.LineNumber word tokens) after h d =
        line_leaves d.0 (λ n. record after { line_offset = pos n -ℤ pos (numbered_line r.rules word.line) }) h.0 h.1 d.2
