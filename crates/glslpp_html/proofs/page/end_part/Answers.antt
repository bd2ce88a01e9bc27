use Rattle.std.proofs.Common.{string_bytes}
use Rattle.glslpp_html.proofs.Showing.{shows_none}
use Rattle.glslpp_html.proofs.page.end_part.Goals as goal

pub returns-then-not-part : goal.returns-then-not-part
returns-then-not-part c = shows_none (string_bytes c.args.body.now)
