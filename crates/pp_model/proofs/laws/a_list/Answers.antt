use Rattle.std.proofs.Common.{false}
use Rattle.pp_model.specs.Names.{is_same_name, defined_name}
use Rattle.pp_model.specs.Emitting.{answers_at}
use Rattle.pp_model.proofs.existence.ListLemmas.{a_list}
use Rattle.pp_model.proofs.existence.ArgumentLemmas.{an_answer}
use Rattle.pp_model.proofs.laws.a_list.Goals as goal

pub returns : goal.returns
returns c = record {
  argument = λ level. a_list (λ name. false) (answers_at level) (an_answer level);
  line = λ level. a_list (λ name. is_same_name name defined_name) (answers_at level) (an_answer level);
}
