use Rattle.std.proofs.Common.{◌∙◌, sym}
use Rattle.std.specs.Str.{chars}
use Rattle.pp_macros.proofs.defined_names.NameKeysLemmas.{text_tests, lookup_alike}
use Rattle.pp_macros.proofs.defined_names.ParameterNamesLemmas.{other_found}
use Rattle.pp_macros.proofs.parameter_names.ParameterNames.position.Goals as goal

pub returns-in-None : goal.returns-in-None
returns-in-None c =
    rw (← c.self.view_is)
    (c.copied.ensures ∙ c.get.ensures.value
    ∙ lookup_alike _ _ (text_tests c.args.name.now c.utf8.name) c.self.inside.positions.entries
    ∙ other_found 8 c.self.inside.positions.entries c.self.inside.names.items (chars c.args.name.now) c.self.invariant
    (sym c.in-None.is ∙ rw c.deref.ensures.value at c.position_among_few.ensures))
