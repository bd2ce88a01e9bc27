use Rattle.std.proofs.Common.{◌∙◌, ◌∷◌, [], ap, map}
use Rattle.std.proofs.lemmas.List.{map-append}
use Rattle.clap.specs.Words.{App, app_of, rule_of}
use Rattle.glslpp_parts.specs.Options.{known_of}
use Rattle.glslpp_parts.proofs.arguments.with_argument.Goals as goal

pub returns : goal.returns
returns c =
    ap (λ (app : App). map known_of app.top.rules) ((c.in_ok-new.ensures {u = tt}).shape c.requires)
    ∙ map-append known_of (app_of c.args.command).top.rules (rule_of c.args.option ∷ [])
