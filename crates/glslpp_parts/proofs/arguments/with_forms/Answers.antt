use Rattle.std.proofs.Common.{codes}
use Rattle.clap.specs.declared.builder.action.ArgAction.TheVariants.{SetTrue}
use Rattle.clap.specs.Words.{rule_of}
use Rattle.glslpp_parts.specs.Options.{known_of, options_of, lettered, named}
use Rattle.glslpp_parts.proofs.OptionsLemmas.{four_added}
use Rattle.glslpp_parts.proofs.arguments.with_forms.Goals as goal

pub returns : goal.returns
returns c =
    four_added (options_of c.args.command) (options_of c.in_ok-first.first) (options_of c.in_ok-second.second)
    (options_of c.in_ok-third.third) (options_of c.in_ok-fourth.fourth) (lettered (codes "compact") 80 SetTrue)
    (named (codes "tokens")) (named (codes "directives")) (named (codes "definitions"))
    (known_of (rule_of c.in_ok-compact.compact)) (known_of (rule_of c.in_ok-tokens.tokens))
    (known_of (rule_of c.long_flag-directives.result)) (known_of (rule_of c.in_ok-definitions.definitions))
    (c.in_ok-first.ensures {u = tt}) (c.in_ok-second.ensures {u = tt}) (c.in_ok-third.ensures {u = tt})
    (c.in_ok-fourth.ensures {u = tt}) (c.in_ok-compact.ensures {u = tt}).says (c.in_ok-tokens.ensures {u = tt}).says
    c.long_flag-directives.ensures.says (c.in_ok-definitions.ensures {u = tt}).says
