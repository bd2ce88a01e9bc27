use Rattle.pp_model.specs.Emitting.{answers_at}
use Rattle.pp_model.proofs.runs.RunEndLemmas.{end_stays, run_ends_for_good}
use Rattle.pp_model.proofs.laws.run_end.Goals as goal

pub returns : goal.returns
returns c = record {
  item = λ level. end_stays (answers_at level);
  replies = λ level. run_ends_for_good (answers_at level);
}
