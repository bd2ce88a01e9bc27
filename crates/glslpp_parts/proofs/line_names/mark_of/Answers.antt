use Rattle.std.proofs.Common.{◌∙◌, ap, subst, option_map}
use Rattle.std.specs.Str.{trim_start}
use Rattle.std.specs.Str.Parse.{ParsesUnsigned}
use Rattle.std.specs.Option.{unwrap_or}
use Rattle.glslpp_parts.specs.LineNames.{past_digits, leading_digits, numbering_of, label_or, quoted_name}
use Rattle.glslpp_parts.proofs.LineNamesLemmas.{mark_told, no_mark, parsed}
use Rattle.glslpp_parts.proofs.line_names.mark_of.Goals as goal

pub returns-in_err-number : goal.returns-in_err-number
returns-in_err-number c =
    let rest = c.in_ok-rest.rest.now in
    let digits = c.split_digits.ensures.digits ∙ ap leading_digits c.trim_start.ensures.trim in
    let number = parsed (trim_start rest) c.parse.result (subst (λ ds. ParsesUnsigned 32 10 ds c.parse.result) digits c.parse.ensures.value.0) in
    ap (option_map numbering_of) c.from_residual-in_err-number.ensures
    ∙ no_mark c.args.line.now c.args.label.now rest c.args.at c.in_ok-rest.ensures (c.in_err-number.ensures.value ∙ number)

pub returns : goal.returns
returns c =
    let rest = c.in_ok-rest.rest.now in
    let digits = c.split_digits.ensures.digits ∙ ap leading_digits c.trim_start.ensures.trim in
    let number = parsed (trim_start rest) c.parse.result (subst (λ ds. ParsesUnsigned 32 10 ds c.parse.result) digits c.parse.ensures.value.0) in
    let behind = c.split_digits.ensures.rest ∙ ap past_digits c.trim_start.ensures.trim in
    let label = c.label_or.ensures ∙ ap (label_or c.args.label.now) (c.own_label.ensures ∙ ap (λ t. unwrap_or (quoted_name rest) (leading_digits (trim_start t))) behind) in
    mark_told c.args.line.now c.args.label.now rest c.label_or.result.now c.args.at c.in_ok-number.number c.in_ok-rest.ensures
    (c.in_ok-number.ensures.value ∙ number) label
