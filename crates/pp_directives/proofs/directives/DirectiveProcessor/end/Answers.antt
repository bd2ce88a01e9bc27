use Rattle.std.proofs.Common.{refl}
use Rattle.pp_directives.proofs.PassedErrorsLemmas.{exit_same}
use Rattle.pp_directives.proofs.directives.DirectiveProcessor.end.Goals as goal

pub returns-clause-errors : goal.returns-clause-errors
returns-clause-errors c = let p = c.self.inside in rw (← c.self.view_is) (exit_same p.rules.passes_dead_errors c.match-pop.result _ _ refl)
