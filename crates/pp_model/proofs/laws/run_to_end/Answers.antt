use Rattle.pp_model.proofs.onward.RunLemmas.{one_run_to_end, a_run_to_end}
use Rattle.pp_model.proofs.onward.RunsBeginLemmas.{run_to_end_begins}
use Rattle.pp_model.proofs.laws.run_to_end.Goals as goal

pub returns : goal.returns
returns c = record { one = one_run_to_end; a = a_run_to_end; begins = run_to_end_begins }
