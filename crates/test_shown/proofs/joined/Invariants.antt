use Rattle.std.proofs.Common.{◌≡◌, ◌++◌, codes, map, take, string_bytes}
use Rattle.std.specs.List.{flat_map}
use Rattle.test_shown.proofs.joined.Given as goal

-- the first text, which the loop begins with, and those that were joined to it so far
abbrev pub invariant-loop-part : goal.invariant-loop-part
invariant-loop-part l = string_bytes l.text
    ≡ string_bytes l.initial.text ++ flat_map (λ other. codes ", " ++ other) (map string_bytes (take l.part-index l.others))
