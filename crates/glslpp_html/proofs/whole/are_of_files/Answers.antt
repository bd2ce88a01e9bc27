use Rattle.std.proofs.Common.{◌<◌, subst}
use Rattle.std.specs.List.{All}
use Rattle.std.proofs.lemmas.List.{take_all}
use Rattle.std.proofs.lemmas.List.Elements.{All-nil}
use Rattle.glslpp_html.proofs.Wholes.{one_more_holds}
use Rattle.glslpp_html.proofs.whole.are_of_files.Goals as goal

pub loop-part-init : goal.loop-part-init
loop-part-init c = All-nil (λ part. part.file < c.args.count)

pub loop-part-preserved : goal.loop-part-preserved
loop-part-preserved c =
    one_more_holds (λ part. part.file < c.args.count) c.args.parts.now c.loop-part.part-index c.part-item.result c.loop-part-test.true c.part-item.is
    c.loop-part.invariant c.if-part-count.false

pub returns : goal.returns
returns c e = subst (All (λ part. part.file < c.args.count)) (take_all c.loop-part.part-index c.args.parts.now c.loop-part-test.false) c.loop-part.invariant
