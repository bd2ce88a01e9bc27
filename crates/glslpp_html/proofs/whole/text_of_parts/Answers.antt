use Rattle.std.proofs.Common.{◌∙◌, ◌++◌, ap, sym, string_bytes}
use Rattle.std.specs.Str.{chars}
use Rattle.std.proofs.lemmas.Str.{chars-nil}
use Rattle.glslpp_html.specs.Pages.{text_in_file}
use Rattle.glslpp_html.proofs.Wholes.{all_of_them, next_text}
use Rattle.glslpp_html.proofs.whole.text_of_parts.Goals as goal

pub loop-part-init : goal.loop-part-init
loop-part-init c = ap chars c.new-text.ensures.bytes ∙ chars-nil

pub loop-part-preserved : goal.loop-part-preserved
loop-part-preserved c =
    c.in_ok-push_in_file.ensures ∙ ap (λ t. t ++ text_in_file c.args.number c.part-item.result) c.loop-part.invariant
    ∙ sym (next_text (text_in_file c.args.number) c.args.parts.now c.loop-part.part-index c.part-item.result c.loop-part-test.true c.part-item.is)

pub returns : goal.returns
returns c = c.loop-part.invariant ∙ all_of_them (text_in_file c.args.number) c.args.parts.now c.loop-part.part-index c.loop-part-test.false
