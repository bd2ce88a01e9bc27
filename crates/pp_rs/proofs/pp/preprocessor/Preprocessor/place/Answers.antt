use Rattle.std.proofs.Common.{ap}
use Rattle.pp_rs.specs.Kept.{error_place}
use Rattle.pp_rs.proofs.pp.preprocessor.Preprocessor.place.Goals as goal

pub returns : goal.returns
unfolding error_place
returns c = ap (λ p. p.place) c.self.view_is
