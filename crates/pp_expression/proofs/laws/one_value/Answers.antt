use Rattle.pp_expression.proofs.OneOutcome.{one_value}
use Rattle.pp_expression.proofs.laws.one_value.Goals as goal

pub returns : goal.returns
returns c = one_value
