use Rattle.std.proofs.Common.{string_bytes}
use Rattle.glslpp_html.proofs.Showing.{shows_none}
use Rattle.glslpp_html.proofs.page.begin_part.Goals as goal

pub returns-then-not-part : goal.returns-then-not-part
returns-then-not-part c = rw c.if-not-part.true (shows_none (string_bytes c.args.body.now))
