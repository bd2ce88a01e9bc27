use Rattle.std.proofs.Common.{◌≡◌}
use Rattle.glslpp_html.specs.Written.{IsWritten}
use Rattle.glslpp_html.proofs.source.Writer.push_marks.Given as goal

abbrev pub invariant-loop-mark : goal.invariant-loop-mark
invariant-loop-mark l = record { written : IsWritten l.self; source : l.self.source.now ≡ l.fn.self.source.now }
