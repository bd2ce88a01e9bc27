use Rattle.std.proofs.Common.{[], string_bytes}
use Rattle.std.specs.Str.{chars}
use Rattle.glslpp_html.specs.Pages.{beginning_of}
use Rattle.glslpp_html.proofs.Showing.{shows_both, then_nothing}
use Rattle.glslpp_html.proofs.page.push_part.Goals as goal

pub returns : goal.returns
returns c =
    let start = string_bytes c.args.body.now in
    let begun = string_bytes c.begin_part.new.body in
    let shown = string_bytes c.push_source.new.page in
    let part = c.args.part.now in
    then_nothing c.end_part.result start shown (string_bytes c.end_part.new.body) _
    (shows_both start begun shown (beginning_of part) (chars part.text.now) c.in_ok-begin_part.ensures c.in_ok-push_source.ensures)
    c.end_part.ensures
