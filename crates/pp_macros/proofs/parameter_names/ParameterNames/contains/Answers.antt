use Rattle.std.proofs.Common.{◌∙◌, ap}
use Rattle.std.specs.Prelude.{is_some}
use Rattle.pp_model.specs.Names.{is_same_name}
use Rattle.pp_macros.proofs.defined_names.ParameterNamesLemmas.{is_some-position}
use Rattle.pp_macros.proofs.parameter_names.ParameterNames.contains.Goals as goal

pub returns : goal.returns
returns c =
    rw (← c.as_str.ensures) (c.is_some.ensures ∙ ap is_some c.position.ensures ∙ is_some-position (is_same_name _) c.args.self.now)
