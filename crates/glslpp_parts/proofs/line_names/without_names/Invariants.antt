use Rattle.std.proofs.Common.{◌≡◌, List, ℕ, ◌++◌, string_bytes}
use Rattle.std.specs.Str.Iter.{split_inclusive_text}
use Rattle.glslpp_parts.specs.LineNames.{IsBlanked}
use Rattle.glslpp_parts.proofs.line_names.without_names.Given as goal

-- the lines so far are blanked
abbrev pub invariant-loop-line : goal.invariant-loop-line
invariant-loop-line l =
    (passed : List ℕ) × (l.fn.text ≡ passed ++ split_inclusive_text l.line-iterator) × IsBlanked passed (string_bytes l.blanked)
