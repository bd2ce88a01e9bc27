use Rattle.glslpp_html.proofs.Wholes.{each_at_end, none_undivided, one_more_undivided}
use Rattle.glslpp_html.proofs.whole.undivided.Goals as goal

pub loop-number-init : goal.loop-number-init
loop-number-init c = none_undivided c.args.files.now c.new-parts.result.items c.new-parts.ensures.items

pub loop-number-preserved : goal.loop-number-preserved
loop-number-preserved c =
    one_more_undivided c.args.files.now c.loop-number.parts.items c.push.new.self.items c.loop-number.number _ c.whole_part.result
    c.loop-number-test.true c.loop-number.invariant c.in_ok-push.ensures.items c.whole_part.ensures.number c.whole_part.ensures.text

pub returns : goal.returns
returns c =
    let u = c.loop-number.invariant in
    record {
      each = each_at_end c.args.files.now c.loop-number.parts.items c.loop-number.number c.loop-number-test.false u.before;
      no_other = u.no_other;
    }
