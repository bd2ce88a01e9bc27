use Rattle.std.proofs.Common.{◌∙◌, ap}
use Rattle.std.specs.Str.{chars}
use Rattle.std.proofs.lemmas.Str.{chars-IsAscii}
use Rattle.pp_directives.proofs.convert.text_of.Goals as goal

pub returns : goal.returns
returns c = c.from.ensures ∙ ap chars c.in_ok-from_str.ensures.ok ∙ chars-IsAscii c.args.spelling.now c.requires
