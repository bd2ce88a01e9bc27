use Rattle.std.proofs.Common.{codes}
use Rattle.clap.specs.declared.builder.action.ArgAction.TheVariants.{Append}
use Rattle.clap.specs.Words.{rule_of}
use Rattle.glslpp_parts.specs.Options.{known_of, options_of, lettered, long_listed, named}
use Rattle.glslpp_parts.proofs.OptionsLemmas.{three_added}
use Rattle.glslpp_parts.proofs.arguments.with_include_options.Goals as goal

pub returns : goal.returns
returns c =
    three_added (options_of c.args.command) (options_of c.in_ok-first.first) (options_of c.in_ok-second.second)
    (options_of c.in_ok-third.third) (lettered (codes "folder") 73 Append) (long_listed (codes "include"))
    (named (codes "line-names")) (known_of (rule_of c.definition_option-folder.result))
    (known_of (rule_of c.listed_option-include.result)) (known_of (rule_of c.long_flag-names.result))
    (c.in_ok-first.ensures {u = tt}) (c.in_ok-second.ensures {u = tt}) (c.in_ok-third.ensures {u = tt})
    c.definition_option-folder.ensures.says c.listed_option-include.ensures.says c.long_flag-names.ensures.says
