use Rattle.std.proofs.Common.{◌≡◌}
use Rattle.glslpp_parts.specs.Columns.{column_at}
use Rattle.glslpp_parts.proofs.columns.count_from.Given as goal

-- what was counted is the column of the byte that comes next
abbrev pub invariant-loop-index : goal.invariant-loop-index
invariant-loop-index l = l.column ≡ column_at l.text l.index
