use Rattle.pp_model.specs.Emitting.{answers_at}
use Rattle.pp_model.proofs.runs.RunStatesLemmas.{run_keeps_marks_apart}
use Rattle.pp_model.proofs.laws.run_marks_apart.Goals as goal

pub returns : goal.returns
returns c level = run_keeps_marks_apart (answers_at level)
