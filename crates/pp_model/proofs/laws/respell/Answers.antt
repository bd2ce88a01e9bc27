use Rattle.pp_model.proofs.respelling.RespellLemmas.{runs_read_afresh}
use Rattle.pp_model.proofs.laws.respell.Goals as goal

pub returns : goal.returns
returns c = runs_read_afresh
