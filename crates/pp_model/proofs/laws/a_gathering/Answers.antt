use Rattle.std.proofs.Common.{false}
use Rattle.pp_model.specs.Names.{is_same_name, defined_name}
use Rattle.pp_model.specs.Emitting.{answers_at}
use Rattle.pp_model.proofs.existence.ListLemmas.{list_gathering}
use Rattle.pp_model.proofs.existence.ArgumentLemmas.{an_answer}
use Rattle.pp_model.proofs.laws.a_gathering.Goals as goal

pub returns : goal.returns
returns c = record {
  argument = list_gathering (λ name. false) (answers_at 0) (an_answer 0);
  line = list_gathering (λ name. is_same_name name defined_name) (answers_at 0) (an_answer 0);
}
