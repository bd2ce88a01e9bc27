use Rattle.std.proofs.Common.{◌≤◌}
use Rattle.glslpp_parts.proofs.columns.nearest.Given as goal

-- the bytes from here to the place are none of line ends
abbrev pub invariant-bytes : goal.invariant-bytes
invariant-bytes l = l.start ≤ l.offset

abbrev pub decreases-bytes : goal.decreases-bytes
decreases-bytes l = l.start
