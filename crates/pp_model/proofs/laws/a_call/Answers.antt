use Rattle.std.proofs.Common.{false}
use Rattle.pp_model.specs.Names.{is_same_name, defined_name}
use Rattle.pp_model.specs.Emitting.{answers_at}
use Rattle.pp_model.proofs.existence.ListLemmas.{list_call}
use Rattle.pp_model.proofs.existence.ArgumentLemmas.{an_answer}
use Rattle.pp_model.proofs.laws.a_call.Goals as goal

pub returns : goal.returns
returns c = record {
  argument = λ level. list_call (λ name. false) (answers_at level) (an_answer level);
  line = λ level. list_call (λ name. is_same_name name defined_name) (answers_at level) (an_answer level);
}
