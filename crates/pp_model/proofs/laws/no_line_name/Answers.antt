use Rattle.pp_model.specs.Emitting.{answers_at}
use Rattle.pp_model.specs.Reading.{argument_reading, line_reading}
use Rattle.pp_model.proofs.taking.NoLineNameLemmas.{shows_no_line_name, alone_shows_no_line_name}
use Rattle.pp_model.proofs.laws.no_line_name.Goals as goal

pub returns : goal.returns
returns c = record {
  argument = λ level. shows_no_line_name argument_reading (answers_at level);
  line = λ level. shows_no_line_name line_reading (answers_at level);
  alone = alone_shows_no_line_name;
}
