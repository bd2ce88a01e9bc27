use Rattle.pp_model.proofs.source.BlockLemmas.{one_branch, none_after_taken}
use Rattle.pp_model.proofs.laws.live_branch.Goals as goal

pub returns : goal.returns
returns c = record { one = one_branch; none_after = none_after_taken }
