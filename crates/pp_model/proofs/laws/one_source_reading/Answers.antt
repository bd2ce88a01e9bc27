use Rattle.pp_model.specs.Emitting.{answers_at}
use Rattle.pp_model.proofs.calls.LevelLemmas.{one_answer}
use Rattle.pp_model.proofs.source.ReadsLemmas.{one_step, source_reads_one}
use Rattle.pp_model.proofs.laws.one_source_reading.Goals as goal

pub returns : goal.returns
returns c = record {
  step = λ level. one_step (answers_at level) (one_answer level);
  reading = λ level. source_reads_one (answers_at level) (one_answer level);
}
