use Rattle.pp_model.specs.Emitting.{answers_at}
use Rattle.pp_model.specs.Reading.{argument_reading, line_reading}
use Rattle.pp_model.specs.Reads.{source_reading}
use Rattle.pp_model.proofs.calls.LevelLemmas.{one_answer}
use Rattle.pp_model.proofs.source.ReadsLemmas.{source_reads_one}
use Rattle.pp_model.proofs.taking.TakingLemmas.{argument_reads_one, line_reads_one, one_taking}
use Rattle.pp_model.proofs.laws.one_taking.Goals as goal

pub returns : goal.returns
returns c = record {
  argument = one_taking argument_reading argument_reads_one;
  line = one_taking line_reading line_reads_one;
  source = λ level. one_taking (source_reading (answers_at level)) (source_reads_one (answers_at level) (one_answer level));
}
