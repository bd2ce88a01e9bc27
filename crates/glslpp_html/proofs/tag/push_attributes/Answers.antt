use Rattle.std.proofs.Common.{string_bytes}
use Rattle.glslpp_html.proofs.Showing.{has_both, has_none}
use Rattle.glslpp_html.proofs.tag.push_attributes.Goals as goal

pub loop-attribute-init : goal.loop-attribute-init
loop-attribute-init c = has_none (string_bytes c.args.page.now)

pub loop-attribute-preserved : goal.loop-attribute-preserved
loop-attribute-preserved c =
    has_both (string_bytes c.args.page.now) (string_bytes c.loop-attribute.page) (string_bytes c.push_attribute.new.page) c.loop-attribute.invariant
    c.in_ok-push_attribute.ensures
