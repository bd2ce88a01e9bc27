use Rattle.glslpp_html.proofs.Wholes.{AreEachWholeBefore}
use Rattle.glslpp_html.proofs.whole.are_each_whole.Given as goal

abbrev pub invariant-loop-number : goal.invariant-loop-number
invariant-loop-number l = AreEachWholeBefore l.files l.parts l.number
