use Rattle.std.proofs.Common.{◌∙◌, ◌++◌, ap}
use Rattle.std.specs.Str.{chars}
use Rattle.std.proofs.lemmas.Str.{chars-nil}
use Rattle.glslpp_parts.specs.FileNames.{escaped}
use Rattle.glslpp_parts.proofs.dependencies.escaped.Goals as goal

pub returns : goal.returns
returns c = c.in_ok-push_name.ensures ∙ ap (λ t. chars t ++ escaped (chars c.args.name.now)) c.new-text.ensures.bytes
    ∙ ap (λ t. t ++ escaped (chars c.args.name.now)) chars-nil
