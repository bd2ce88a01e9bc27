use Rattle.pp_expression.proofs.AnOutcome.{an_outcome}
use Rattle.pp_expression.proofs.laws.an_evaluation.Goals as goal

pub returns : goal.returns
returns c = an_outcome
