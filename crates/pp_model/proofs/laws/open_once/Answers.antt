use Rattle.pp_model.specs.Emitting.{answers_at}
use Rattle.pp_model.specs.Reading.{argument_reading, line_reading}
use Rattle.pp_model.proofs.taking.OpenOnceLemmas.{run_opens_once, reading_opens_once}
use Rattle.pp_model.proofs.laws.open_once.Goals as goal

pub returns : goal.returns
returns c = record {
  source = λ level. run_opens_once (answers_at level);
  argument = λ level. reading_opens_once argument_reading (answers_at level);
  line = λ level. reading_opens_once line_reading (answers_at level);
}
