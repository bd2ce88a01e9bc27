use Rattle.std.proofs.Common.{string_bytes}
use Rattle.glslpp_html.proofs.Showing.{named_then, shows_text}
use Rattle.glslpp_html.proofs.page.begin_outer.Goals as goal

pub returns : goal.returns
returns c =
    named_then c.open.result (string_bytes c.args.body.now) (string_bytes c.push_heading.new.body) (string_bytes c.push_text.new.page)
    (string_bytes c.open.new.page) c.args.name.now c.in_ok-push_heading.ensures c.in_ok-push_text.ensures c.open.ensures
