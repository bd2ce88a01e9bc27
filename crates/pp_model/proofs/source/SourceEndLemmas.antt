-- Once reading a source gave the end, it gives nothing else.
use Rattle.std.proofs.Common.{ℕ, ◌≡◌, ◌∙◌, List, [], ◌∷◌, take, drop, length, refl, sym, ap, subst, Option, Some, None, ◌⊎◌, inl, inr}
use Rattle.pp_model.specs.Places.{PlacedFault}
use Rattle.pp_model.specs.Calls.{Answers}
use Rattle.pp_model.specs.Sights.{sight_of}
use Rattle.pp_model.specs.Blocks.{Block, blocks_at, innermost, is_live}
use Rattle.pp_model.specs.SourceReader.{Suspended, SourceReader}
use Rattle.pp_model.specs.Moves.{move_at}
use Rattle.pp_model.specs.Acts.{Acted, leave, end_by, perform, facts_here, act}
use Rattle.pp_model.specs.inner.Acts.{items_left}
use Rattle.pp_model.specs.Reads.{Steps, Reads, here, later}
use Rattle.pp_model.specs.Painting.{taken_of}
use Rattle.pp_model.specs.declared.outcome.Outcome.{Outcome}
use Rattle.pp_model.specs.declared.read.Taken.{Taken}
use Rattle.pp_model.specs.declared.read.Taken.TheVariants as taken
use Rattle.pp_model.specs.declared.outcome.Outcome.TheVariants as outcome
use Rattle.pp_model.specs.declared.sight.Sight.TheVariants as sight
use Rattle.pp_model.specs.declared.step.Step.{Step}
use Rattle.pp_model.specs.declared.step.Step.TheVariants as step
use Rattle.pp_model.proofs.source.ReadsLemmas.{does_that, GivenBy, given_by}
use Rattle.pp_model.proofs.source.ActsLemmas.{act_holds}

-- the block whose fault is reported next at the source's end
abbrev pub reported_next : SourceReader → Option Block
reported_next r = innermost (take r.unfinished (blocks_at r.items (length r.items)))

-- nothing of the source is left, and each block that stays open was reported
pub record IsAtEnd (r : SourceReader) : Type 0 where
  pub nothing_left : sight_of (drop r.position r.items) ≡ sight.End
  pub all_reported : reported_next r ≡ None
  pub outermost : r.around ≡ []

abbrev at_end : SourceReader → Acted
at_end r = record { step = step.Given outcome.End; after = r }

-- the act gives the end only at the end of the source
abbrev EndsThere : SourceReader → Acted → Type 0
EndsThere r a = a.step ≡ step.Given outcome.End → IsAtEnd r

reported_none : (block : Option Block) (r : SourceReader) → (end_by block r).step ≡ step.Given outcome.End → block ≡ None
reported_none (Some block) r h = cc
reported_none None r h = refl

-- and in the source itself
none_around : (block : Option Block) (r : SourceReader) → (end_by block r).step ≡ step.Given outcome.End → r.around ≡ []
none_around (Some block) r h = cc
none_around None r h = go r.around h
  where
    go : (around : List Suspended) → (leave around r).step ≡ step.Given outcome.End → around ≡ []
    go [] h = refl
    go (outer ∷ around) h = cc

only_at_end : (r : SourceReader) → EndsThere r (act r)
only_at_end r = act_holds (EndsThere r) r (record {
  end = λ there h. record { nothing_left = there; all_reported = reported_none (reported_next r) r h; outermost = none_around (reported_next r) r h };
  fault = λ found h. cc;
  nothing = λ count least h. cc;
  wanted = λ word tokens h. cc;
  numbered = λ its word tokens h. cc;
  asked = λ its word is h. cc;
  defined = λ its word named is h. cc;
  changed = λ its name h. cc;
  decision = λ its holds h. cc;
  token = λ its shown stands count least h. cc;
})

reported_end : (block : Option Block) (r : SourceReader) → block ≡ None → r.around ≡ [] → end_by block r ≡ at_end r
reported_end (Some block) r h outermost = cc
reported_end None r h outermost = ap (λ around. leave around r) outermost

-- and there nothing else is
end_acts : (r : SourceReader) → IsAtEnd r → act r ≡ at_end r
end_acts r end =
    subst (λ z. perform (move_at r.rules (is_live r.items r.truths r.position) (facts_here r) z (items_left r)) r ≡ at_end r) (sym end.nothing_left)
    (reported_end (reported_next r) r end.all_reported end.outermost)

-- only the end is the end
given_end : (text : ℕ) (o : Outcome) → taken_of text o ≡ taken.End → o ≡ outcome.End
given_end text outcome.End e = refl
given_end text _ e = cc

module _ (A : Answers) where
  no_end_given : (Some taken.End ≡ None) ⊎ ((fault : PlacedFault) × (Some taken.End ≡ Some (taken.Fault fault))) → ⊥
  no_end_given (inl e) = cc
  no_end_given (inr e) = let bad = e.1 in cc

  -- a step that gives the end stands there
  step_ends : (r t : SourceReader) → Steps A r (Some taken.End) t → IsAtEnd r × (t ≡ r)
  step_ends r t s = go (act r).step refl (given_by A r (Some taken.End) t (act r).step (act r).after s)
    where
      go : (did : Step) → (act r).step ≡ did → GivenBy r.text did (Some taken.End) → IsAtEnd r × (t ≡ r)
      go (step.Given x) h g =
          let end = only_at_end r (h ∙ ap step.Given (given_end r.text x (let same : taken_of r.text x ≡ taken.End = cc in same))) in
          let acts = end_acts r end in
          (end, (does_that A (step.Given outcome.End) r (Some taken.End) t (ap (λ a. a.step) acts) s).1 ∙ ap (λ a. a.after) acts)
      go _ h g = absurd (no_end_given g)

  -- after the end that is read the reader stands there,
  pub reading_ends : (x : Taken) (r t : SourceReader) → Reads A r x t → x ≡ taken.End → IsAtEnd t
  reading_ends x r t (here x1 r1 t1 s) same =
      let s1 : Steps A r (Some taken.End) t = rw same at s in
      let there = step_ends r t s1 in
      rw there.1 there.0
  reading_ends x r t (later x1 r1 s t1 h more) same = reading_ends x s t more same

  -- and there reading gives it again
  pub reading_at_end : (x : Taken) (r t : SourceReader) → IsAtEnd r → Reads A r x t → (x ≡ taken.End) × (t ≡ r)
  reading_at_end x r t end (here x1 r1 t1 s) =
      let acts = end_acts r end in
      let same = does_that A (step.Given outcome.End) r (Some x) t (ap (λ a. a.step) acts) s in
      let is : x ≡ taken.End = (let z = same.0 in cc) in
      (is, same.1 ∙ ap (λ a. a.after) acts)
  reading_at_end x r t end (later o1 r1 s t1 h more) =
      let same = (does_that A (step.Given outcome.End) r None s (ap (λ a. a.step) (end_acts r end)) h).0 in
      cc
