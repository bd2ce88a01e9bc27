use Rattle.std.proofs.Common.{◌≡◌}
use Rattle.glslpp_html.specs.Written.{IsWritten}
use Rattle.glslpp_html.proofs.source.Writer.push_notes.Given as goal

abbrev pub invariant-loop-note : goal.invariant-loop-note
invariant-loop-note l = record { written : IsWritten l.self; source : l.self.source.now ≡ l.fn.self.source.now }
