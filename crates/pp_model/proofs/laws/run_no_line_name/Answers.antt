use Rattle.pp_model.specs.Emitting.{answers_at}
use Rattle.pp_model.proofs.runs.RunStatesLemmas.{run_shows_no_line_name}
use Rattle.pp_model.proofs.laws.run_no_line_name.Goals as goal

pub returns : goal.returns
returns c level = run_shows_no_line_name (answers_at level)
