use Rattle.std.proofs.Common.{◌≡◌, take}
use Rattle.glslpp_parts.proofs.directive_text.are_same.Given as goal

-- the texts are the same up to here
abbrev pub invariant-loop-index : goal.invariant-loop-index
invariant-loop-index l = take l.index l.first ≡ take l.index l.second
