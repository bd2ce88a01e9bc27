use Rattle.std.proofs.Common.{◌≡◌, drop, map}
use Rattle.glslpp_parts.specs.Warnings.{later, said}
use Rattle.glslpp_parts.proofs.warning.said.Given as goal

-- what the words so far say counts, if those that are left say nothing
abbrev pub invariant-loop-word : goal.invariant-loop-word
invariant-loop-word l =
    later (said l.name (map (λ word. word.now) (drop l.word-index l.words))) l.last
    ≡ said l.name (map (λ word. word.now) l.words)
