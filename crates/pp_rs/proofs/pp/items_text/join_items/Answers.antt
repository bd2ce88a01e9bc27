use Rattle.std.proofs.Common.{arith}
use Rattle.pp_rs.proofs.ItemsTextLemmas.{pieces_output, one_more_item}
use Rattle.pp_rs.proofs.pp.items_text.join_items.Goals as goal

pub loop-token-init : goal.loop-token-init
loop-token-init c = rw c.new-text.ensures.bytes (pieces_output c.args.tokens.now)

pub loop-token-preserved : goal.loop-token-preserved
loop-token-preserved c =
    one_more_item _ _ c.loop-token.in_line c.args.tokens.now c.loop-token.token-index c.loop-token.invariant _ c.token-item.result _ (omega arith)
    c.token-item.is (c.in_ok-push_item.ensures {u = tt}) c.is_ordinary-in_line.ensures
