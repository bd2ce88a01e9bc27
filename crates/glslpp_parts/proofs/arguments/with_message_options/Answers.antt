use Rattle.std.proofs.Common.{codes}
use Rattle.clap.specs.Words.{rule_of}
use Rattle.glslpp_parts.specs.Options.{known_of, options_of, long_valued}
use Rattle.glslpp_parts.proofs.OptionsLemmas.{four_added}
use Rattle.glslpp_parts.proofs.arguments.with_message_options.Goals as goal

pub returns : goal.returns
returns c =
    four_added (options_of c.args.command) (options_of c.in_ok-first.first) (options_of c.in_ok-second.second)
    (options_of c.in_ok-third.third) (options_of c.in_ok-fourth.fourth) (long_valued (codes "max-errors"))
    (long_valued (codes "error-format")) (long_valued (codes "color")) (long_valued (codes "stdin-name"))
    (known_of (rule_of c.most_errors_option-most.result)) (known_of (rule_of c.error_format_option-format.result))
    (known_of (rule_of c.colour_option-colour.result)) (known_of (rule_of c.long_option-name.result))
    (c.in_ok-first.ensures {u = tt}) (c.in_ok-second.ensures {u = tt}) (c.in_ok-third.ensures {u = tt})
    (c.in_ok-fourth.ensures {u = tt}) c.most_errors_option-most.ensures.says c.error_format_option-format.ensures.says
    c.colour_option-colour.ensures.says c.long_option-name.ensures.says
