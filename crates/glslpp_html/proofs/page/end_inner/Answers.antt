use Rattle.std.proofs.Common.{[], string_bytes}
use Rattle.glslpp_html.proofs.Showing.{then_shown}
use Rattle.glslpp_html.proofs.page.end_inner.Goals as goal

pub returns : goal.returns
returns c =
    then_shown c.close-2.result (string_bytes c.args.body.now) (string_bytes c.close.new.page) (string_bytes c.close-2.new.page) [] []
    c.in_ok-close.ensures c.close-2.ensures
