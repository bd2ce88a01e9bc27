use Rattle.std.proofs.Common.{◌∙◌, ap, drop, length, nat_eq, if◌then◌else◌, Some, None}
use Rattle.std.specs.List.{starts_with}
use Rattle.glslpp_parts.proofs.LineNamesLemmas.{strip_prefix_text}
use Rattle.glslpp_parts.proofs.line_names.past_word.Goals as goal

pub returns : goal.returns
returns c =
    let word = c.args.word.now in
    strip_prefix_text word c.trim_start.result.now c.strip_prefix.result c.strip_prefix.ensures.cases
    ∙ ap (λ text. if starts_with nat_eq text word then Some (drop (length word) text) else None) c.trim_start.ensures.trim
