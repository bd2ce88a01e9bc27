use Rattle.pp_rs.proofs.ItemsTextLemmas.{held_tokens_spelled}
use Rattle.pp_print.proofs.laws.held_tokens.Goals as goal

pub returns : goal.returns
returns c = held_tokens_spelled
