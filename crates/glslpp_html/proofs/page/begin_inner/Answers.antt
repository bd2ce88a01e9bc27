use Rattle.std.proofs.Common.{[], string_bytes}
use Rattle.std.specs.Str.{chars}
use Rattle.glslpp_html.proofs.Showing.{named_then, shows_both, nothing_after}
use Rattle.glslpp_html.proofs.page.begin_inner.Goals as goal

pub returns : goal.returns
returns c =
    let start = string_bytes c.args.body.now in
    let opened = string_bytes c.open-2.new.page in
    let headed = string_bytes c.push_heading.new.body in
    let closed = string_bytes c.close.new.page in
    let name = chars c.args.name.now in
    let before = shows_both start (string_bytes c.open.new.page) opened [] [] c.in_ok-open.ensures c.in_ok-open-2.ensures in
    let heading = shows_both start opened headed [] name before c.in_ok-push_heading.ensures in
    named_then c.open-3.result start closed (string_bytes c.push_text.new.page) (string_bytes c.open-3.new.page) c.args.name.now
    (nothing_after start headed closed name heading c.in_ok-close.ensures) c.in_ok-push_text.ensures c.open-3.ensures
