use Rattle.std.proofs.Common.{codes}
use Rattle.clap.specs.declared.builder.action.ArgAction.TheVariants.{Append, SetTrue}
use Rattle.clap.specs.Words.{rule_of}
use Rattle.glslpp_parts.specs.Options.{known_of, options_of, lettered}
use Rattle.glslpp_parts.proofs.OptionsLemmas.{two_added}
use Rattle.glslpp_parts.proofs.warning_options.with_warning_options.Goals as goal

pub returns : goal.returns
returns c =
    two_added (options_of c.args.command) (options_of c.in_ok-first.first) (options_of c.in_ok-second.second)
    (lettered (codes "warning") 87 Append) (lettered (codes "silent") 119 SetTrue) (known_of (rule_of c.definition_option-warning.result))
    (known_of (rule_of c.short_flag-silent.result)) (c.in_ok-first.ensures {u = tt}) (c.in_ok-second.ensures {u = tt})
    c.definition_option-warning.ensures.says c.short_flag-silent.ensures.says
