use Rattle.std.proofs.Common.{codes}
use Rattle.clap.specs.declared.builder.action.ArgAction.TheVariants.{Append, Set}
use Rattle.clap.specs.Words.{rule_of}
use Rattle.glslpp_parts.specs.Options.{known_of, options_of, lettered}
use Rattle.glslpp_parts.proofs.OptionsLemmas.{three_added}
use Rattle.glslpp_parts.proofs.arguments.with_value_options.Goals as goal

pub returns : goal.returns
returns c =
    three_added (options_of c.args.command) (options_of c.in_ok-first.first) (options_of c.in_ok-second.second)
    (options_of c.in_ok-third.third) (lettered (codes "define") 68 Append) (lettered (codes "undefine") 85 Append)
    (lettered (codes "output") 111 Set) (known_of (rule_of c.definition_option-define.result))
    (known_of (rule_of c.definition_option-undefine.result)) (known_of (rule_of c.value_option-output.result))
    (c.in_ok-first.ensures {u = tt}) (c.in_ok-second.ensures {u = tt}) (c.in_ok-third.ensures {u = tt})
    c.definition_option-define.ensures.says c.definition_option-undefine.ensures.says c.value_option-output.ensures.says
