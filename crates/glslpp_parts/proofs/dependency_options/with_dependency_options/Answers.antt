use Rattle.std.proofs.Common.{codes}
use Rattle.clap.specs.Words.{rule_of}
use Rattle.glslpp_parts.specs.Options.{known_of, options_of, long_listed, long_valued, named}
use Rattle.glslpp_parts.proofs.OptionsLemmas.{two_added, four_added, six_added}
use Rattle.glslpp_parts.proofs.dependency_options.with_dependency_options.Goals as goal

pub returns : goal.returns
returns c =
    six_added (options_of c.args.command) (options_of c.in_ok-fourth.fourth) (options_of c.in_ok-sixth.sixth)
    (named (codes "dependencies")) (named (codes "write-dependencies")) (long_valued (codes "dependency-file"))
    (long_listed (codes "target")) (long_listed (codes "quoted-target")) (named (codes "phony-targets"))
    (four_added (options_of c.args.command) (options_of c.in_ok-first.first) (options_of c.in_ok-second.second)
    (options_of c.in_ok-third.third) (options_of c.in_ok-fourth.fourth) (named (codes "dependencies"))
    (named (codes "write-dependencies")) (long_valued (codes "dependency-file")) (long_listed (codes "target"))
    (known_of (rule_of c.long_flag-only.result)) (known_of (rule_of c.long_flag-beside.result))
    (known_of (rule_of c.long_option-file.result)) (known_of (rule_of c.listed_option-target.result))
    (c.in_ok-first.ensures {u = tt}) (c.in_ok-second.ensures {u = tt}) (c.in_ok-third.ensures {u = tt})
    (c.in_ok-fourth.ensures {u = tt}) c.long_flag-only.ensures.says c.long_flag-beside.ensures.says
    c.long_option-file.ensures.says c.listed_option-target.ensures.says)
    (two_added (options_of c.in_ok-fourth.fourth) (options_of c.in_ok-fifth.fifth) (options_of c.in_ok-sixth.sixth)
    (long_listed (codes "quoted-target")) (named (codes "phony-targets")) (known_of (rule_of c.listed_option-quoted.result))
    (known_of (rule_of c.long_flag-phony.result)) (c.in_ok-fifth.ensures {u = tt}) (c.in_ok-sixth.ensures {u = tt})
    c.listed_option-quoted.ensures.says c.long_flag-phony.ensures.says)
