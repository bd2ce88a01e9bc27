use Rattle.std.proofs.Common.{codes}
use Rattle.clap.specs.Words.{rule_of}
use Rattle.glslpp_parts.specs.Options.{known_of, options_of, long_valued, named}
use Rattle.glslpp_parts.proofs.OptionsLemmas.{four_added}
use Rattle.glslpp_parts.proofs.arguments.with_general_options.Goals as goal

pub returns : goal.returns
returns c =
    four_added (options_of c.args.command) (options_of c.in_ok-first.first) (options_of c.in_ok-second.second)
    (options_of c.in_ok-third.third) (options_of c.in_ok-fourth.fourth) (named (codes "first-error")) (named (codes "undef"))
    (long_valued (codes "budget")) (named (codes "html")) (known_of (rule_of c.long_flag-first_error.result))
    (known_of (rule_of c.long_flag-undef.result)) (known_of (rule_of c.budget_option-budget.result)) (known_of (rule_of c.in_ok-page.page))
    (c.in_ok-first.ensures {u = tt}) (c.in_ok-second.ensures {u = tt}) (c.in_ok-third.ensures {u = tt})
    (c.in_ok-fourth.ensures {u = tt}) c.long_flag-first_error.ensures.says c.long_flag-undef.ensures.says
    c.budget_option-budget.ensures.says (c.in_ok-page.ensures {u = tt}).says
