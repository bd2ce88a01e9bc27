use Rattle.std.proofs.Common.{[], string_bytes}
use Rattle.std.specs.Str.{chars}
use Rattle.glslpp_html.specs.Pages.{text_of_part}
use Rattle.glslpp_html.proofs.Showing.{body_begun, one_element_more, shows_both}
use Rattle.glslpp_html.proofs.page.body_of.Goals as goal

pub loop-part-init : goal.loop-part-init
loop-part-init c =
    let start = string_bytes c.new-body.result in
    let headed = string_bytes c.push_heading.new.body in
    body_begun headed c.args.command.now start c.new-body.ensures.bytes
    (shows_both start (string_bytes c.push_switch.new.body) headed [] (chars c.args.command.now) c.in_ok-push_switch.ensures
    c.in_ok-push_heading.ensures)

pub loop-part-preserved : goal.loop-part-preserved
loop-part-preserved c =
    one_element_more text_of_part (chars c.args.command.now) c.args.parts.now c.loop-part.part-index c.part-item.result
    (string_bytes c.loop-part.body) (string_bytes c.push_part.new.body) c.loop-part-test.true c.part-item.is c.loop-part.invariant
    c.in_ok-push_part.ensures
