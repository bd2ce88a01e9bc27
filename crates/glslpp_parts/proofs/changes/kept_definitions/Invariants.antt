use Rattle.std.proofs.Common.{◌≡◌, ◌++◌, drop}
use Rattle.glslpp_parts.specs.Changes.{kept}
use Rattle.glslpp_parts.proofs.changes.kept_definitions.Given as goal

-- what was kept, and what is kept of the changes that are left, is all that is kept
abbrev pub invariant-loop-index : goal.invariant-loop-index
invariant-loop-index l = l.definitions.items ++ kept (drop l.index l.changes) ≡ kept l.changes
