-- Up to the first fault reading on gives what reading does, and so does an expander over it.
use Rattle.std.proofs.Common.{◌≡◌, ◌∙◌, sym, subst, ℕ, Bool, true, false, ◌&&◌, List, [], ◌∷◌, drop, refl, Option, Some, None, ◌⊎◌, inl, inr}
use Rattle.std.specs.Prelude.{is_none}
use Rattle.pp_lexer.specs.Lexed.{Seen}
use Rattle.pp_lexer.specs.declared.token.Location.{Location}
use Rattle.pp_model.specs.Places.{PlacedFault}
use Rattle.pp_model.specs.Reading.{Expander}
use Rattle.pp_model.specs.Taking.{Fetches, held, listed, read, Takes}
use Rattle.pp_model.specs.Calls.{Answers}
use Rattle.pp_model.specs.Blocks.{Block}
use Rattle.pp_model.specs.SourceReader.{Suspended, SourceReader}
use Rattle.pp_model.specs.Acts.{Acted, leave, end_by, act}
use Rattle.pp_model.specs.Reads.{Does, Steps, Reads, here as reads_here, later as reads_later, source_reading}
use Rattle.pp_model.specs.Faults.{after_fault}
use Rattle.pp_model.specs.Onward.{Onward, act_on, numbered_by, IsPastFault, is_of_items, StepsOn, passed, faulty, ReadsOn, here, later, onward_reading}
use Rattle.pp_model.specs.RunToEnd.{going_on}
use Rattle.pp_model.specs.declared.read.Taken.{Taken}
use Rattle.pp_model.specs.declared.read.Taken.TheVariants as taken
use Rattle.pp_model.specs.declared.step.Step.{Step}
use Rattle.pp_model.specs.declared.step.Step.TheVariants as step
use Rattle.pp_model.proofs.source.ActsLemmas.{act_holds}
use Rattle.pp_model.proofs.source.ReadsLemmas.{HoldsAfter, holds_after}

-- ---- a step

-- no block is left out
act_on_all : (r : SourceReader) (rest : List Seen) → drop r.position r.items ≡ rest → act_on 0 rest r ≡ act r
act_on_all r [] p = rw p refl
act_on_all r (s ∷ rest) p = rw p refl

-- an act gives nothing, or the same texts are around after it
abbrev StaysWithin : SourceReader → Acted → Type 0
StaysWithin r a = (a.step ≡ step.Passed) ⊎ (a.after.around ≡ r.around)

left_within : (r : SourceReader) (around : List Suspended) → r.around ≡ around → StaysWithin r (leave around r)
left_within r [] p = inr refl
left_within r (outer ∷ around) p = inl refl

end_within : (r : SourceReader) (block : Option Block) → StaysWithin r (end_by block r)
end_within r (Some block) = inr refl
end_within r None = left_within r r.around refl

act_within : (r : SourceReader) → StaysWithin r (act r)
act_within r = act_holds (StaysWithin r) r (record {
  end = λ there. end_within r _;
  fault = λ found. inr refl;
  nothing = λ count least. inl refl;
  wanted = λ word tokens. inr refl;
  numbered = λ its word tokens. inr refl;
  asked = λ its word is. inr refl;
  defined = λ its word named is. inr refl;
  changed = λ its name. inl refl;
  decision = λ its holds. inl refl;
  token = λ its shown stands count least. inr refl;
})

held_within : (r after : SourceReader) (did : Step) → after.around ≡ r.around → HoldsAfter (λ t. t.around ≡ r.around) r did after
held_within r after step.Passed h = h
held_within r after (step.Given x) h = h
held_within r after (step.Defines named) h = (h, h)
held_within r after (step.Condition word tokens) h = (refl, λ holds. h)
held_within r after (step.LineNumber word tokens) h = (refl, λ n. h)

asks_nothing : (b : Bool) (asks : Option Location) → (b && is_none asks) ≡ true → asks ≡ None
asks_nothing true None h = refl
asks_nothing true (Some rest) h = cc
asks_nothing false asks h = cc

numbered_around : (r : SourceReader) (word : Location) (number : Option ℕ) → (numbered_by r word number).around ≡ r.around
numbered_around r word None = refl
numbered_around r word (Some n) = refl

abbrev on : SourceReader → Onward
on r = record { reader = r; dead = [] }

module _ (A : Answers) where
  given_within : (did : Step) (after r : SourceReader) (x : Taken) (t : SourceReader) → (did ≡ step.Passed) ⊎ (after.around ≡ r.around)
      → Does A r did after (Some x) t → t.around ≡ r.around
  given_within did after r x t (inl p) d = let passed : Does A r step.Passed after (Some x) t = rw p at d in (let bad = passed.0 in cc)
  given_within did after r x t (inr h) d = holds_after A r (Some x) t (λ t. t.around ≡ r.around) did after (held_within r after did h) d

  past_within : (n : ℕ) (r : SourceReader) (did : Step) (t : SourceReader) → IsPastFault A n r did t → t.around ≡ r.around
  past_within n r (step.LineNumber word tokens) t d = rw (d.2, numbered_around (after_fault n r) word d.0) refl
  past_within n r step.Passed t d = rw d refl
  past_within n r (step.Given x) t d = rw d refl
  past_within n r (step.Defines named) t d = rw d refl
  past_within n r (step.Condition word tokens) t d = rw d refl

  -- After this outcome the readers are the same; or it is a fault that asks for nothing, and the same texts are around.
  data Begins (given : Option Taken) (t : SourceReader) (o : Onward) : Type 0 where
    same : o ≡ on t → Begins given t o
    fails : (fault : PlacedFault) → given ≡ Some (taken.Fault fault) → fault.1.asks ≡ None → o.reader.around ≡ t.around → Begins given t o

  step_begins : (given : Option Taken) (r : SourceReader) (new : Onward) → StepsOn A (on r) given new
      → (t : SourceReader) × Steps A r given t × Begins given t new
  step_begins given r new (passed given1 t old new1 d p q) =
      (t, subst (λ (a : Acted). Does A r a.step a.after given t) (act_on_all r (drop r.position r.items) refl) d, same q)
  step_begins given r new (faulty s t given1 old new1 d p k q) = of given p steps
    where
      steps : Steps A r given s
      steps = subst (λ (a : Acted). Does A r a.step a.after given s) (act_on_all r (drop r.position r.items) refl) d

      of : (given : Option Taken) → is_of_items r given ≡ true → Steps A r given s → (t : SourceReader) × Steps A r given t × Begins given t new
      of None h stepped = cc
      of (Some (taken.Token token)) h stepped = cc
      of (Some taken.End) h stepped = cc
      of (Some (taken.Fault fault)) h stepped =
          let around : s.around ≡ r.around = given_within (act r).step (act r).after r (taken.Fault fault) s (act_within r) stepped in
          let past : t.around ≡ r.around = past_within 0 r _ t k in
          (s, stepped, fails fault refl (asks_nothing _ _ h) (rw q (past ∙ sym around)))

  reads_begin : (x : Taken) (r : SourceReader) (old new : Onward) → old ≡ on r → ReadsOn A old x new
      → (t : SourceReader) × Reads A r x t × Begins (Some x) t new
  reads_begin x r old new e (here x1 old1 new1 a) =
      let s = step_begins (Some x) r new (rw e at a) in
      (s.0, reads_here x r s.0 s.1, s.2)
  reads_begin x r old new e (later x1 old1 mid new1 a more) =
      let s = step_begins None r mid (rw e at a) in
      let rest = reads_begin x s.0 mid new (on_same s.0 s.2) more in
      (rest.0, reads_later x r s.0 rest.0 s.1 rest.1, rest.2)
    where
      on_same : (t : SourceReader) → Begins None t mid → mid ≡ on t
      on_same t (same p) = p
      on_same t (fails fault p asks around) = cc

  -- ---- what is taken

  -- After this is taken the expanders are the same; or it is a fault that asks for nothing, and as many texts are around.
  pub data Taking (x : Taken) (f : Expander SourceReader) (g : Expander Onward) : Type 0 where
    same : g ≡ going_on [] f → Taking x f g
    fails : (fault : PlacedFault) → x ≡ taken.Fault fault → fault.1.asks ≡ None → g.list ≡ f.list → g.reader.reader.around ≡ f.reader.around → Taking x f g

  fetch_begins : (x : Taken) (e : Expander SourceReader) (g : Expander Onward) → Fetches (onward_reading A) (going_on [] e) x g
      → (f : Expander SourceReader) × Fetches (source_reading A) e x f × Taking x f g
  fetch_begins x e g (held x1 e1 g1 p q) = (record e { held = None }, held x e _ p refl, same q)
  fetch_begins x e g (listed x1 token rest e1 g1 p k h q) = (record e { list = rest }, listed x token rest e _ p k h refl, same q)
  fetch_begins x e g (read y x1 reader e1 g1 p k reads h q) =
      let r = reads_begin y e.reader (on e.reader) reader refl reads in
      of r.0 r.1 r.2
    where
      of : (t : SourceReader) → Reads A e.reader y t → Begins (Some y) t reader
          → (f : Expander SourceReader) × Fetches (source_reading A) e x f × Taking x f g
      of t there (same z) = (record e { list = []; reader = t }, read y x t e _ p k there (rw z at h) refl, same (rw z at q))
      of t there (fails fault z asks around) =
          let is : y ≡ taken.Fault fault = cc in
          let it : x ≡ taken.Fault fault = rw is at h in
          (record e { list = []; reader = t }, read y x t e _ p k there (rw is it) refl, fails fault it asks (rw q refl) (rw q around))

  pub takes_begin : (x : Taken) (e : Expander SourceReader) (e1 g : Expander Onward) → e1 ≡ going_on [] e → Takes (onward_reading A) e1 x g
      → (f : Expander SourceReader) × Takes (source_reading A) e x f × Taking x f g
  takes_begin x e e1 g z a =
      let f = fetch_begins a.first e g (rw z at a.fetches) in
      of f.0 f.1 f.2
    where
      of : (f : Expander SourceReader) → Fetches (source_reading A) e a.first f → Taking a.first f g
          → (f : Expander SourceReader) × Takes (source_reading A) e x f × Taking x f g
      of f there (same z) = (f, record { first = a.first; fetches = there; paints = rw z at a.paints }, same z)
      of f there (fails fault is asks list around) =
          let it : x ≡ taken.Fault fault = rw is at a.paints in
          (f, record { first = a.first; fetches = there; paints = rw is it }, fails fault it asks list around)
