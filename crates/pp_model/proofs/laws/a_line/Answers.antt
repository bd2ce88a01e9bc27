use Rattle.pp_model.specs.Emitting.{answers_at}
use Rattle.pp_model.proofs.existence.ArgumentLemmas.{an_answer}
use Rattle.pp_model.proofs.existence.LineLemmas.{an_operand, a_line}
use Rattle.pp_model.proofs.laws.a_line.Goals as goal

pub returns : goal.returns
returns c = record {
  operand = λ level. an_operand (answers_at level) (an_answer level);
  words = λ level. a_line (answers_at level) (an_answer level);
}
