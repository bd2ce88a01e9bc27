use Rattle.pp_model.proofs.existence.RunLemmas.{a_run}
use Rattle.pp_model.proofs.laws.a_run.Goals as goal

pub returns : goal.returns
returns c = a_run
