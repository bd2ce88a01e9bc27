use Rattle.pp_model.specs.Emitting.{answers_at}
use Rattle.pp_model.proofs.existence.ArgumentLemmas.{an_answer}
use Rattle.pp_model.proofs.existence.SourceLemmas.{a_step, source_reads}
use Rattle.pp_model.proofs.laws.a_source_reading.Goals as goal

pub returns : goal.returns
returns c = record {
  step = λ level. a_step (answers_at level) (an_answer level);
  reading = λ level. source_reads (answers_at level) (an_answer level);
}
