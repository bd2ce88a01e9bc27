-- What a step of a preprocessor means for the runs of the definitions: what they give from the state after the step
-- they also give from the state before it.
use Rattle.std.proofs.Common.{◌≡◌, ◌∙◌, sym, Option}
use Rattle.std.specs.Prelude.{Ok, Err}
use Rattle.pp_model.specs.declared.read.Read.{Read}
use Rattle.pp_model.specs.Reading.{Expander}
use Rattle.pp_model.specs.Calls.{Answers}
use Rattle.pp_model.specs.ItemCall.{item_call}
use Rattle.pp_model.specs.Emitting.{Emits}
use Rattle.pp_model.specs.Onward.{Onward}
use Rattle.pp_model.specs.declared.read.Taken.TheVariants as taken
use Rattle.pp_model.specs.declared.splice.CallPlace.{CallPlace}
use Rattle.pp_macros.specs.Item.{PlacedStep}
use Rattle.pp_macros.proofs.taking.PauseLemmas.{EmitsLater}
use Rattle.pp_rs.specs.Comes.{source_rules}
use Rattle.pp_macros.specs.inner.Expander.{kept_call}
use Rattle.pp_macros.specs.inner.Frames.{outermost_frame_call}
use Rattle.pp_model.specs.Places.{fault_in}
use Rattle.pp_macros.specs.inner.Source.{Source}
use Rattle.pp_macros.specs.inner.Expander as kept
use Rattle.pp_rs.specs.inner.Stands.{StandsFor}
use Rattle.pp_macros.specs.declared.step.PlacedExit.TheVariants.{Error, Continue, Finished}

-- What a step of an expander is to the state that it stands for: it gives the next item, or pauses and keeps that. Before
-- the step the outermost macro was called there.
abbrev pub LeadsFrom : Answers → Expander Onward → PlacedStep Read → Option CallPlace → kept.Expander → Source → Type 0
LeadsFrom A e (Ok read) call expander source = (f : Expander Onward) × (emits : Emits source_rules A e (taken.Token read) f)
    × StandsFor expander source f × (kept_call expander.held call expander.frames ≡ item_call emits)
LeadsFrom A e (Err Continue) call expander source = (f : Expander Onward) × StandsFor expander source f × EmitsLater source_rules A e f
LeadsFrom A e (Err Finished) call expander source = (f : Expander Onward) × (emits : Emits source_rules A e taken.End f)
    × StandsFor expander source f × (kept_call expander.held call expander.frames ≡ item_call emits)
LeadsFrom A e (Err (Error fault)) call expander source =
    (f : Expander Onward) × (emits : Emits source_rules A e (taken.Fault (fault_in (outermost_frame_call expander.frames) fault)) f)
    × (item_call emits ≡ (fault_in (outermost_frame_call expander.frames) fault).1.call) × StandsFor expander source f

-- the same of each state that the expander and the source stand for; one step, or many that pause before it
pub record Leads (A : Answers) (expander : kept.Expander) (source : Source) (step : PlacedStep Read) (call : Option CallPlace)
    (expander_then : kept.Expander) (source_then : Source) : Type 0 where
  pub from : (e : Expander Onward) → StandsFor expander source e → LeadsFrom A e step call expander_then source_then

-- what comes from the state after a pause comes from the one before it
leads_on : (A : Answers) (e f : Expander Onward) (step : PlacedStep Read) (call : Option CallPlace) (expander : kept.Expander) (source : Source)
    → EmitsLater source_rules A e f → LeadsFrom A f step call expander source → LeadsFrom A e step call expander source
leads_on A e f (Ok read) call expander source keeps leads =
    let first = keeps (taken.Token read) leads.0 leads.1 in
    (leads.0, first.0, leads.2, leads.3 ∙ sym first.1)
leads_on A e f (Err Continue) call expander source keeps leads = (
  leads.0,
  leads.1,
  λ x g emits.
      let later = leads.2 x g emits in
      let first = keeps x g later.0 in
      (first.0, first.1 ∙ later.1),
)
leads_on A e f (Err Finished) call expander source keeps leads =
    let first = keeps taken.End leads.0 leads.1 in
    (leads.0, first.0, leads.2, leads.3 ∙ sym first.1)
leads_on A e f (Err (Error fault)) call expander source keeps leads =
    let first = keeps (taken.Fault (fault_in (outermost_frame_call expander.frames) fault)) leads.0 leads.1 in
    (leads.0, first.0, first.1 ∙ leads.2, leads.3)

-- a pause, and then a step
pub leads_then : (A : Answers) (expander expander_then expander_last : kept.Expander) (source source_then source_last : Source) (step : PlacedStep Read)
    (paused call : Option CallPlace) → Leads A expander source (Err Continue) paused expander_then source_then
    → Leads A expander_then source_then step call expander_last source_last → Leads A expander source step call expander_last source_last
leads_then A expander expander_then expander_last source source_then source_last step paused call pauses leads =
    record {
      from = λ e stands.
          let after : LeadsFrom A e (Err Continue) paused expander_then source_then = pauses.from e stands in
          leads_on A e after.0 step call expander_last source_last after.2 (leads.from after.0 after.1);
    }
