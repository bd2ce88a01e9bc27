use Rattle.std.proofs.Common.{◌∙◌, ap}
use Rattle.pp_model.specs.Names.{is_same_name}
use Rattle.pp_model.proofs.TextLemmas.{chars-defined}
use Rattle.pp_model.proofs.names.is_defined_name.Goals as goal

pub returns : goal.returns
returns c = c.is_spelled.ensures ∙ ap (is_same_name c.args.name.now) chars-defined
