use Rattle.std.proofs.Common.{ap}
use Rattle.pp_rs.specs.Kept.{is_spent}
use Rattle.pp_rs.proofs.pp.preprocessor.Preprocessor.is_spent.Goals as goal

pub returns : goal.returns
unfolding is_spent
returns c = ap (λ p. p.spent) c.self.view_is
