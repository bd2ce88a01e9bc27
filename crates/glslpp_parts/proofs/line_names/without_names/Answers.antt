use Rattle.std.proofs.Common.{string_bytes}
use Rattle.std.specs.Str.Iter.{split_inclusive_text}
use Rattle.glslpp_parts.proofs.LineNamesLemmas.{blanked_more, length-all_blanked}
use Rattle.glslpp_parts.proofs.line_names.without_names.Goals as goal

pub loop-line-preserved : goal.loop-line-preserved
loop-line-preserved c =
    let so_far = c.loop-line.invariant in
    blanked_more c.args.text.now so_far.0 (split_inclusive_text c.loop-line.line-iterator) (string_bytes c.loop-line.blanked) c.in-Some.line.now
    (split_inclusive_text c.next.new.self) (string_bytes c.push_without_name.new.blanked) so_far.1 so_far.2 c.in-Some.ensures.steps.1.0
    c.in_ok-is_changed.ensures

pub returns-clause-length : goal.returns-clause-length
returns-clause-length c =
    let so_far = c.loop-line.invariant in
    length-all_blanked c.args.text.now so_far.0 (split_inclusive_text c.loop-line.line-iterator) (string_bytes c.loop-line.blanked) so_far.1 so_far.2
    c.in-None.ensures.steps.1.0
