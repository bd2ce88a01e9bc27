use Rattle.std.proofs.Common.{◌∙◌, ap}
use Rattle.std.specs.Str.{chars}
use Rattle.pp_model.specs.Names.{is_same_name}
use Rattle.pp_lexer.proofs.values.TextLemmas.{chars_tested}
use Rattle.pp_macros.proofs.names.table.is_text.Goals as goal

pub returns : goal.returns
returns c = c.eq.ensures ∙ chars_tested _ _ c.utf8.name c.as_str.utf8 ∙ ap (is_same_name (chars c.args.name.now)) c.as_str.ensures
