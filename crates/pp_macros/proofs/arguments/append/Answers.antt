use Rattle.std.proofs.Common.{◌+◌, ◌∙◌, arith}
use Rattle.std.proofs.lemmas.List.{drop-set-lt}
use Rattle.pp_macros.proofs.taking.PartLemmas.{moved_more, same_beyond}
use Rattle.pp_macros.proofs.arguments.append.Goals as goal

pub loop-at-preserved : goal.loop-at-preserved
loop-at-preserved c = record {
  moved = moved_more c.args.tokens.now c.loop-at.tokens c.args.items.now.items c.loop-at.items.items c.push.new.self.items c.loop-at.at
      c.index-tokens-at.result c.take_out.result (omega (arith, c.loop-at.auto.tokens)) c.loop-at.invariant.left c.loop-at.invariant.moved
      c.take_out.ensures.is c.in_ok-push.ensures.items;
  left = drop-set-lt (c.loop-at.at + 1) c.loop-at.tokens c.loop-at.at c.take_out.new.place (omega arith)
      ∙ same_beyond c.args.tokens.now c.loop-at.tokens c.loop-at.at c.loop-at.invariant.left;
}
