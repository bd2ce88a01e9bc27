use Rattle.pp_model.proofs.including.AskedReaderLemmas.{asked_at_line}
use Rattle.pp_model.proofs.including.InsertedRunLemmas.{included_is_inserted}
use Rattle.pp_model.proofs.laws.included_text.Goals as goal

pub returns : goal.returns
returns c = record {
  asked = λ level. asked_at_line level;
  inserted = λ level. included_is_inserted level;
}
