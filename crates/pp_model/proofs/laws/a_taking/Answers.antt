use Rattle.std.proofs.Common.{false}
use Rattle.pp_model.specs.Names.{is_same_name, defined_name}
use Rattle.pp_model.specs.Emitting.{answers_at}
use Rattle.pp_model.proofs.existence.ListLemmas.{list_taking}
use Rattle.pp_model.proofs.existence.ArgumentLemmas.{an_answer}
use Rattle.pp_model.proofs.laws.a_taking.Goals as goal

pub returns : goal.returns
returns c = record {
  argument = list_taking (λ name. false) (answers_at 0) (an_answer 0);
  line = list_taking (λ name. is_same_name name defined_name) (answers_at 0) (an_answer 0);
}
