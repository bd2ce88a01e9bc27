use Rattle.pp_model.specs.Emitting.{answers_at}
use Rattle.pp_model.proofs.source.DeadTextLemmas.{dead_text_gives_nothing}
use Rattle.pp_model.proofs.runs.LiveRunLemmas.{runs_are_live}
use Rattle.pp_model.proofs.laws.dead_text.Goals as goal

pub returns : goal.returns
returns c = record { step = dead_text_gives_nothing; run = λ level. runs_are_live (answers_at level) }
