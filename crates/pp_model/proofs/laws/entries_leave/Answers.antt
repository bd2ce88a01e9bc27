use Rattle.pp_model.specs.Emitting.{answers_at}
use Rattle.pp_model.specs.Reading.{argument_reading, line_reading}
use Rattle.pp_model.proofs.taking.ApartMarksLemmas.{only_takes_entries}
use Rattle.pp_model.proofs.laws.entries_leave.Goals as goal

pub returns : goal.returns
returns c = record {
  argument = λ level. only_takes_entries argument_reading (answers_at level);
  line = λ level. only_takes_entries line_reading (answers_at level);
}
