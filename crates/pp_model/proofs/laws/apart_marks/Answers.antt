use Rattle.pp_model.specs.Emitting.{answers_at}
use Rattle.pp_model.specs.Reading.{argument_reading, line_reading}
use Rattle.pp_model.specs.Reads.{source_reading}
use Rattle.pp_model.proofs.taking.ApartMarksLemmas.{starts_apart, keeps_marks_apart}
use Rattle.pp_model.proofs.laws.apart_marks.Goals as goal

pub returns : goal.returns
returns c = record {
  start = starts_apart;
  argument = λ level. keeps_marks_apart argument_reading (answers_at level);
  line = λ level. keeps_marks_apart line_reading (answers_at level);
  source = λ level. keeps_marks_apart (source_reading (answers_at level)) (answers_at level);
}
