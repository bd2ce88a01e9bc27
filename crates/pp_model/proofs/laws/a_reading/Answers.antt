use Rattle.std.proofs.Common.{false}
use Rattle.pp_model.specs.Names.{is_same_name, defined_name}
use Rattle.pp_model.proofs.existence.ListLemmas.{list_reads}
use Rattle.pp_model.proofs.laws.a_reading.Goals as goal

pub returns : goal.returns
returns c = record {
  argument = list_reads (λ name. false);
  line = list_reads (λ name. is_same_name name defined_name);
}
