use Rattle.pp_expression.proofs.OneOutcome.{one_fault}
use Rattle.pp_expression.proofs.laws.one_fault.Goals as goal

pub returns : goal.returns
returns c = one_fault
