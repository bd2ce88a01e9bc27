use Rattle.pp_model.proofs.values.LineWordsLemmas.{one_operand_at, one_line_at}
use Rattle.pp_model.proofs.laws.one_line.Goals as goal

pub returns : goal.returns
returns c = record { operand = one_operand_at; words = one_line_at }
