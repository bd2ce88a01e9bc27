use Rattle.std.proofs.Common.{◌∙◌, ap, take}
use Rattle.std.specs.Prelude.{codes}
use Rattle.std.proofs.lemmas.Str.Pattern.{starts_text}
use Rattle.pp_model.specs.Names.{is_same_name}
use Rattle.pp_model.proofs.source.OwnNameLemmas.{begins_same}
use Rattle.pp_model.proofs.names.begins_as_own.Goals as goal

pub returns : goal.returns
returns c =
    starts_text _ (codes "GL_") _ c.starts_with.ensures.cases ∙ begins_same _ c.as_str.utf8
    ∙ ap (λ cs. is_same_name (take 3 cs) (codes "GL_")) c.as_str.ensures
