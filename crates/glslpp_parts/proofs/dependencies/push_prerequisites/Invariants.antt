use Rattle.std.proofs.Common.{◌≡◌, ◌++◌, drop, map, string_bytes}
use Rattle.std.specs.List.{flat_map}
use Rattle.std.specs.Str.{chars}
use Rattle.glslpp_parts.specs.MakeRules.{prerequisites, continued_name}
use Rattle.glslpp_parts.proofs.dependencies.push_prerequisites.Given as goal

-- with those that are left, all are appended
abbrev pub invariant-loop-other : goal.invariant-loop-other
invariant-loop-other l =
    chars (string_bytes l.text) ++ flat_map continued_name (map (λ file. chars (string_bytes file)) (drop l.other-index l.others))
    ≡ chars (string_bytes l.fn.text) ++ prerequisites (map (λ file. chars (string_bytes file)) l.files)
