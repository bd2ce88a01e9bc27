use Rattle.std.proofs.Common.{arith}
use Rattle.glslpp_html.proofs.Wholes.{each_at_end, each_more}
use Rattle.glslpp_html.proofs.whole.are_each_whole.Goals as goal

pub loop-number-init : goal.loop-number-init
loop-number-init c number file below = absurd (omega (arith, below))

pub loop-number-preserved : goal.loop-number-preserved
loop-number-preserved c =
    each_more c.args.files.now c.args.parts.now c.loop-number.number _ c.loop-number-test.true c.loop-number.invariant
    (c.in_ok-is_whole.ensures {u = tt} c.if-not-branch.false)

pub returns : goal.returns
returns c e = each_at_end c.args.files.now c.args.parts.now c.loop-number.number c.loop-number-test.false c.loop-number.invariant
