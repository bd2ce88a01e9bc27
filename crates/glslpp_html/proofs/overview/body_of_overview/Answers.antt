use Rattle.std.proofs.Common.{string_bytes}
use Rattle.std.specs.Str.{chars}
use Rattle.glslpp_html.specs.Pages.{text_of_entry}
use Rattle.glslpp_html.proofs.Showing.{body_begun, one_element_more}
use Rattle.glslpp_html.proofs.overview.body_of_overview.Goals as goal

pub loop-index-init : goal.loop-index-init
loop-index-init c = body_begun (string_bytes c.push_heading.new.body) c.args.command.now (string_bytes c.new-body.result) c.new-body.ensures.bytes c.in_ok-push_heading.ensures

pub loop-index-preserved : goal.loop-index-preserved
loop-index-preserved c =
    one_element_more text_of_entry (chars c.args.command.now) c.args.entries.now c.loop-index.index-counter c.index-entries-index.result
    (string_bytes c.loop-index.body) (string_bytes c.push_entry.new.body) c.loop-index-test.true c.index-entries-index.is c.loop-index.invariant
    c.in_ok-push_entry.ensures
