use Rattle.std.proofs.Common.{◌≤◌}
use Rattle.glslpp_parts.proofs.arguments.count_before.Given as goal

-- at most as many were counted as were looked at
abbrev pub invariant-loop-other : goal.invariant-loop-other
invariant-loop-other l = l.count ≤ l.other-index
