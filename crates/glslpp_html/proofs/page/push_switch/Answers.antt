use Rattle.std.proofs.Common.{[], string_bytes}
use Rattle.glslpp_html.proofs.Showing.{shows_both, then_nothing}
use Rattle.glslpp_html.proofs.page.push_switch.Goals as goal

pub returns : goal.returns
returns c =
    let start = string_bytes c.args.body.now in
    let first = string_bytes c.open.new.page in
    let second = string_bytes c.open-2.new.page in
    let third = string_bytes c.close.new.page in
    let opened = shows_both start first second [] [] c.in_ok-open.ensures c.in_ok-open-2.ensures in
    then_nothing c.close-2.result start third (string_bytes c.close-2.new.page) []
    (shows_both start second third [] [] opened c.in_ok-close.ensures) c.close-2.ensures
