use Rattle.std.proofs.Common.{◌≡◌, ◌++◌, drop, map, string_bytes}
use Rattle.std.specs.Prelude.{codes}
use Rattle.std.specs.List.{flat_map}
use Rattle.std.specs.Str.{chars}
use Rattle.glslpp_parts.specs.MakeRules.{spaced_words}
use Rattle.glslpp_parts.proofs.dependencies.push_targets.Given as goal

-- with those that are left, all are appended
abbrev pub invariant-loop-other : goal.invariant-loop-other
invariant-loop-other l =
    chars (string_bytes l.text) ++ flat_map (λ other. codes " " ++ other) (map (λ target. chars target.now) (drop l.other-index l.others))
    ≡ chars (string_bytes l.fn.text) ++ spaced_words (map (λ target. chars target.now) l.targets)
