use Rattle.std.proofs.Common.{◌∙◌, refl}
use Rattle.pp_macros.proofs.open_frames.KnownLemmas.{pause_known}
use Rattle.pp_macros.proofs.taking.ExpanderLemmas.{leads_more, leads_now, pause_falls}
use Rattle.pp_macros.proofs.macro_processor.MacroProcessor.take_next.Goals as goal

pub loop-step-init : goal.loop-step-init
loop-step-init g c = record { leads = λ step p t next. next; below = refl; waits = c.requires.waits; known = c.requires.known }

pub take-step-requires-clause-known : goal.take-step-requires-clause-known
take-step-requires-clause-known g c = c.loop-step.invariant.known

pub returns-then-not-is_pause-clause-takes : goal.returns-then-not-is_pause-clause-takes
returns-then-not-is_pause-clause-takes g c = leads_now _ _ _ _ _ _ _ c.loop-step.invariant.leads c.take-step.ensures.steps (cc)

pub loop-step-smaller : goal.loop-step-smaller
loop-step-smaller g c = pause_falls _ _ _ _ _ c.take-step.ensures.steps (cc)

pub loop-step-preserved : goal.loop-step-preserved
loop-step-preserved g c = record {
  leads = leads_more _ _ _ _ _ _ _ c.loop-step.invariant.leads c.take-step.ensures.steps (cc);
  below = c.take-step.ensures.below ∙ c.loop-step.invariant.below;
  waits = c.take-step.ensures.waits;
  known = pause_known _ c.loop-step.self c.take-step.new.self _ _ c.take-step.ensures.steps (cc) c.take-step.ensures.below c.loop-step.invariant.known;
}
