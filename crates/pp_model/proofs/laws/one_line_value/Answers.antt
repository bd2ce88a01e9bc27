use Rattle.pp_model.specs.Emitting.{answers_at}
use Rattle.pp_model.proofs.calls.LevelLemmas.{one_answer}
use Rattle.pp_model.proofs.values.LineValueLemmas.{one_evaluation, one_condition, one_line_number}
use Rattle.pp_model.proofs.laws.one_line_value.Goals as goal

pub returns : goal.returns
returns c = record {
  evaluation = one_evaluation;
  condition = λ level. one_condition (answers_at level) (one_answer level);
  line_number = λ level. one_line_number (answers_at level) (one_answer level);
}
