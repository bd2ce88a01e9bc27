use Rattle.std.proofs.Common.{◌∙◌, ap}
use Rattle.pp_rs.specs.Kept.{asked_line}
use Rattle.pp_rs.proofs.pp.preprocessor.Preprocessor.include_line.Goals as goal

pub returns : goal.returns
unfolding asked_line
returns c = c.asks.ensures ∙ ap (λ p. p.last.asks) c.self.view_is
