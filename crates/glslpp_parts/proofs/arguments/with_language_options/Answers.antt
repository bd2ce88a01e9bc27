use Rattle.std.proofs.Common.{codes}
use Rattle.clap.specs.Words.{rule_of}
use Rattle.glslpp_parts.specs.Options.{known_of, options_of, long_listed, long_valued}
use Rattle.glslpp_parts.proofs.OptionsLemmas.{three_added}
use Rattle.glslpp_parts.proofs.arguments.with_language_options.Goals as goal

pub returns : goal.returns
returns c =
    three_added (options_of c.args.command) (options_of c.in_ok-first.first) (options_of c.in_ok-second.second)
    (options_of c.in_ok-third.third) (long_valued (codes "rules")) (long_valued (codes "std")) (long_listed (codes "extension"))
    (known_of (rule_of c.rules_option-rules.result)) (known_of (rule_of c.long_option-standard.result))
    (known_of (rule_of c.extension_option-extension.result)) (c.in_ok-first.ensures {u = tt}) (c.in_ok-second.ensures {u = tt})
    (c.in_ok-third.ensures {u = tt}) c.rules_option-rules.ensures.says c.long_option-standard.ensures.says
    c.extension_option-extension.ensures.says
