use Rattle.std.proofs.Common.{◌∙◌}
use Rattle.std.specs.Str.{chars}
use Rattle.pp_macros.proofs.defined_names.SharedNamesLemmas.{position_shared}
use Rattle.pp_macros.proofs.names.texts.number_of.Goals as goal

pub returns-in_err-number_among-in-None : goal.returns-in_err-number_among-in-None
returns-in_err-number_among-in-None c =
    c.from_residual.ensures ∙ c.in_err-number_among-in-None.ensures.is ∙ position_shared (chars c.args.name.now) c.args.texts.now

pub returns-in_ok-number_among-in-None : goal.returns-in_ok-number_among-in-None
returns-in_ok-number_among-in-None c = c.in_ok-number_among-in-None.ensures.is ∙ position_shared (chars c.args.name.now) c.args.texts.now
