use Rattle.std.proofs.Common.{◌≡◌, ◌+◌, drop, false, option_map}
use Rattle.glslpp_parts.specs.LineNames.{name_length}
use Rattle.glslpp_parts.proofs.line_names.name_length.Given as goal

-- the length is what is counted, and that of what is left
abbrev pub invariant-loop-length : goal.invariant-loop-length
invariant-loop-length l =
    option_map (λ n. l.length + n) (name_length l.is_escaped (drop l.length l.bytes)) ≡ name_length false l.bytes
