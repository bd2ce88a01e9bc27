use Rattle.pp_model.specs.Emitting.{answers_at}
use Rattle.pp_model.proofs.runs.RunChainLemmas.{chains_are_runs}
use Rattle.pp_model.proofs.laws.chains.Goals as goal

pub returns : goal.returns
returns c = λ level. chains_are_runs (answers_at level)
