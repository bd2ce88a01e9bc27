use Rattle.pp_c.proofs.FrontLemmas.{fronts_stay}
use Rattle.pp_c.proofs.laws.fronts.Goals as goal

pub returns : goal.returns
returns c = fronts_stay c.run_to_end.ensures.one
