use Rattle.pp_model.specs.Emitting.{answers_at}
use Rattle.pp_model.proofs.existence.ArgumentLemmas.{an_answer}
use Rattle.pp_model.proofs.existence.LineValueLemmas.{a_condition, a_line_number}
use Rattle.pp_model.proofs.laws.a_line_value.Goals as goal

pub returns : goal.returns
returns c = record {
  condition = λ level. a_condition (answers_at level) (an_answer level);
  line_number = λ level. a_line_number (answers_at level) (an_answer level);
}
