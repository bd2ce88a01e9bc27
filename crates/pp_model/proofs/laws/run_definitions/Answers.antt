use Rattle.pp_model.proofs.existence.RunLemmas.{run_defines_finitely_many}
use Rattle.pp_model.proofs.laws.run_definitions.Goals as goal

pub returns : goal.returns
returns c = run_defines_finitely_many
