use Rattle.pp_model.proofs.existence.ArgumentLemmas.{an_argument}
use Rattle.pp_model.proofs.laws.an_argument.Goals as goal

pub returns : goal.returns
returns c = an_argument
