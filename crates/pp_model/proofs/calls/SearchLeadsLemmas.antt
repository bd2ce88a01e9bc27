-- What holds of each taking holds of the search for the end of a call, and of a call: a relation that joins.
use Rattle.std.proofs.Common.{◌≡◌, ℕ, List}
use Rattle.std.specs.Prelude.{Result, Ok, Err}
use Rattle.pp_model.specs.declared.place.Place.{Place}
use Rattle.pp_model.specs.Places.{PlacedFault, place_of}
use Rattle.pp_model.specs.Definitions.{Definition}
use Rattle.pp_model.specs.Reading.{Reading, Expander}
use Rattle.pp_model.specs.Taking.{Takes}
use Rattle.pp_model.specs.Calls.{Gathered, Gathers, closed, inside, overfull, ended, failed, Answers, Called, no_call, called_by, Calls, alone, broken, whole}
use Rattle.pp_model.specs.declared.read.Read.{Read}
use Rattle.pp_model.specs.declared.read.Taken.{Taken}

-- what a call comes to is no missing call
pub called_is_a_call : (line : ℕ) (answer : Result (List (List Read)) PlacedFault) (o : Taken) → called_by line answer ≡ no_call o → ⊥
called_is_a_call line (Ok arguments) o h = cc
called_is_a_call line (Err fault) o h = cc

module _ {R : Type 0} (I : Reading R) (To : Expander R → Expander R → Type 0) (joined : (e f g : Expander R) → To e f → To f g → To e g)
    (taking_leads : (o : Taken) (e f : Expander R) → Takes I e o f → To e f) where
  pub gathering_leads : (n : ℕ) (last : Place) (x : Result Gathered PlacedFault) (e f : Expander R) → Gathers I n last e x f → To e f
  gathering_leads n last x e f (closed n1 l1 token e1 f1 x1 t h p) = taking_leads _ e f t
  gathering_leads n last x e f (inside n1 k l1 token e1 g f1 rest x1 t h u p) =
      joined e g f (taking_leads _ e g t) (gathering_leads k (place_of token) rest g f u)
  gathering_leads n last x e f (overfull n1 l1 token e1 f1 x1 t h p) = taking_leads _ e f t
  gathering_leads n last x e f (ended n1 l1 e1 f1 x1 t p) = taking_leads _ e f t
  gathering_leads n last x e f (failed n1 l1 fault e1 f1 x1 t p) = taking_leads _ e f t

  pub call_leads : (A : Answers) (d : Definition) (c : Called) (e f : Expander R) → Calls I A d e c f → To e f
  call_leads A d c e f (alone o e1 f1 c1 t h p) = taking_leads o e f t
  call_leads A d c e f (broken o paren fault e1 g f1 c1 t h u p) = joined e g f (taking_leads o e g t) (gathering_leads 0 paren (Err fault) g f u)
  call_leads A d c e f (whole o paren gathered answer e1 g f1 c1 t h u a p) =
      joined e g f (taking_leads o e g t) (gathering_leads 0 paren (Ok gathered) g f u)
