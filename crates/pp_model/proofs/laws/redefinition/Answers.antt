use Rattle.pp_model.specs.Emitting.{answers_at}
use Rattle.pp_model.proofs.source.RedefinitionLemmas.{redefinition_is_checked}
use Rattle.pp_model.proofs.laws.redefinition.Goals as goal

pub returns : goal.returns
returns c level = redefinition_is_checked (answers_at level)
