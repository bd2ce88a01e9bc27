use Rattle.pp_expression.proofs.OneOutcome.{not_both}
use Rattle.pp_expression.proofs.laws.not_both.Goals as goal

pub returns : goal.returns
returns c = not_both
