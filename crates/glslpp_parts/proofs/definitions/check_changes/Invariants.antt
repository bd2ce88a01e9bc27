use Rattle.std.proofs.Common.{take}
use Rattle.std.specs.Prelude.{All}
use Rattle.glslpp_parts.specs.Definitions.{IsDefinable}
use Rattle.glslpp_parts.proofs.definitions.check_changes.Given as goal

-- the changes so far are definable
abbrev pub invariant-loop-change : goal.invariant-loop-change
invariant-loop-change l = All IsDefinable (take l.change-index l.changes)
