use Rattle.pp_model.specs.Reading.{argument_reading, line_reading}
use Rattle.pp_model.proofs.taking.ApartMarksLemmas.{opens_new}
use Rattle.pp_model.proofs.laws.opens_once.Goals as goal

pub returns : goal.returns
returns c = record { argument = opens_new argument_reading; line = opens_new line_reading }
