use Rattle.std.proofs.Common.{◌≡◌, drop}
use Rattle.std.specs.List.{list_any}
use Rattle.glslpp_parts.specs.Changes.{takes_back}
use Rattle.glslpp_parts.proofs.changes.is_taken_back.Given as goal

-- no change so far takes the name back
abbrev pub invariant-loop-change : goal.invariant-loop-change
invariant-loop-change l = list_any (takes_back l.name) l.changes ≡ list_any (takes_back l.name) (drop l.change-index l.changes)
