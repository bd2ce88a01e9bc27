use Rattle.std.proofs.Common.{string_bytes}
use Rattle.glslpp_html.proofs.Showing.{shows_between}
use Rattle.glslpp_html.proofs.overview.push_linked.Goals as goal

pub returns : goal.returns
returns c =
    shows_between c.close.result (string_bytes c.args.body.now) (string_bytes c.open.new.page) (string_bytes c.push_text.new.page)
    (string_bytes c.close.new.page) c.args.name.now c.in_ok-open.ensures c.in_ok-push_text.ensures c.close.ensures
