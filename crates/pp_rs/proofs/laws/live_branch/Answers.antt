use Rattle.pp_model.specs.Emitting.{answers_at}
use Rattle.pp_rs.proofs.blocks.LiveBranchLemmas.{run_has_live_branches}
use Rattle.pp_rs.proofs.laws.live_branch.Goals as goal

pub returns-clause-read : goal.returns-clause-read
returns-clause-read c level = run_has_live_branches (answers_at level)
