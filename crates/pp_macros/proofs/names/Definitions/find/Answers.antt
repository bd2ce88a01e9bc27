use Rattle.pp_macros.proofs.defined_names.DefinitionsLemmas.{names_as}
use Rattle.pp_macros.proofs.names.Definitions.find.Goals as goal

pub returns-in-Some : goal.returns-in-Some
returns-in-Some c = rw (← c.self.view_is, names_as c.self.inside.names c.self.inside.macros.items c.self.invariant.0) c.in-Some.ensures

pub returns-in-None : goal.returns-in-None
returns-in-None c = rw (← c.self.view_is, names_as c.self.inside.names c.self.inside.macros.items c.self.invariant.0) c.in-None.ensures
