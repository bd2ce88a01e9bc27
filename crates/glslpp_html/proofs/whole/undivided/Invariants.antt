use Rattle.glslpp_html.proofs.Wholes.{AreUndivided}
use Rattle.glslpp_html.proofs.whole.undivided.Given as goal

abbrev pub invariant-loop-number : goal.invariant-loop-number
invariant-loop-number l = AreUndivided l.files l.parts.items l.number
