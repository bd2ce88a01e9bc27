use Rattle.pp_model.specs.Emitting.{answers_at}
use Rattle.pp_model.proofs.existence.ArgumentLemmas.{an_answer}
use Rattle.pp_model.proofs.existence.EndLemmas.{an_end}
use Rattle.pp_model.proofs.laws.an_end.Goals as goal

pub returns : goal.returns
returns c level = an_end (answers_at level) (an_answer level)
