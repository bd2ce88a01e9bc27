use Rattle.std.proofs.Common.{◌≡◌}
use Rattle.glslpp_html.specs.Written.{IsWritten}
use Rattle.glslpp_html.proofs.source.Writer.push_lines.Given as goal

abbrev pub invariant-loop-index : goal.invariant-loop-index
invariant-loop-index l = record { written : IsWritten l.self; source : l.self.source.now ≡ l.fn.self.source.now }
