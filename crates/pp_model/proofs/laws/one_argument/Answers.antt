use Rattle.pp_model.proofs.calls.LevelLemmas.{one_argument}
use Rattle.pp_model.proofs.laws.one_argument.Goals as goal

pub returns : goal.returns
returns c = one_argument
