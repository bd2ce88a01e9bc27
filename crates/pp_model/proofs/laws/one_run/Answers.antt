use Rattle.pp_model.proofs.runs.RunLemmas.{one_replies_at, one_run}
use Rattle.pp_model.proofs.laws.one_run.Goals as goal

pub returns : goal.returns
returns c = record { replies = one_replies_at; run = one_run }
