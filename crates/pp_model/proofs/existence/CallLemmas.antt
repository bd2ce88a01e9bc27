-- Something is taken from an expander, and the search for a call from there finds a call, none or a fault.
use Rattle.std.proofs.Common.{ℕ}
use Rattle.std.specs.Prelude.{⊤, Result}
use Rattle.pp_model.specs.declared.place.Place.{Place}
use Rattle.pp_model.specs.Places.{PlacedFault}
use Rattle.pp_model.specs.Definitions.{Definition}
use Rattle.pp_model.specs.Reading.{Reading, Expander}
use Rattle.pp_model.specs.Taking.{Takes}
use Rattle.pp_model.specs.Calls.{Gathered, Gathers, Answers, Called, Calls}
use Rattle.pp_model.specs.declared.read.Taken.{Taken}
use Rattle.pp_model.proofs.existence.Turns.{GoesOn, goes_on, Premises}
use Rattle.pp_model.proofs.existence.SearchLemmas.{Takings, taking, gathers_from, calling}
use Rattle.pp_model.proofs.existence.EveryExpander.{every}

module _ {R : Type 0} {I : Reading R} {A : Answers} {Fine : R → Type 0} {left : R → ℕ} (p : Premises I A Fine left) where
  abbrev To : Expander R → Expander R → Type 0
  To e f = ⊤

  takings : (e : Expander R) → GoesOn I A Fine e → Takings I Fine To e
  takings e (goes_on x o e1 f h t fine more emits fine_h next) = taking x e f t fine (λ k. tt) (λ k. takings f (more k))

  pub fine_taking : (e : Expander R) → Fine e.reader → (x : Taken) × (f : Expander R) × Takes I e x f
  fine_taking e fine = first (every p e fine)
    where
      first : GoesOn I A Fine e → (x : Taken) × (f : Expander R) × Takes I e x f
      first (goes_on x o e1 f h t fine_f more emits fine_h next) = (x, f, t)

  pub fine_gathering : (n : ℕ) (last : Place) (e : Expander R) → Fine e.reader → (x : Result Gathered PlacedFault) × (f : Expander R) × Gathers I n last e x f
  fine_gathering n last e fine = gathers_from I Fine To (λ e f g a b. tt) n last e (takings e (every p e fine))

  pub fine_call : (d : Definition) (e : Expander R) → Fine e.reader → (x : Called) × (f : Expander R) × Calls I A d e x f
  fine_call d e fine =
      let s = calling I Fine To (λ e f g a b. tt) A p.answered p.finite d e (takings e (every p e fine)) in
      (s.called, s.after, s.calls)
