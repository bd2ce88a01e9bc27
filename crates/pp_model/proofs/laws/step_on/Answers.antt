use Rattle.pp_model.specs.Emitting.{answers_at}
use Rattle.pp_model.proofs.calls.LevelLemmas.{one_answer}
use Rattle.pp_model.proofs.existence.ArgumentLemmas.{an_answer}
use Rattle.pp_model.proofs.onward.StepLemmas.{one_step_on}
use Rattle.pp_model.proofs.onward.ExistenceLemmas.{a_step_on}
use Rattle.pp_model.proofs.laws.step_on.Goals as goal

pub returns : goal.returns
returns c = record {
  one = λ level. one_step_on (answers_at level) (one_answer level);
  a = λ level. a_step_on (answers_at level) (an_answer level);
}
