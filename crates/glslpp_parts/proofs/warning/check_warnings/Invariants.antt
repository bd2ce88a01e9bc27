use Rattle.std.proofs.Common.{take}
use Rattle.std.specs.Prelude.{All, IsTrue}
use Rattle.glslpp_parts.specs.Warnings.{is_known}
use Rattle.glslpp_parts.proofs.warning.check_warnings.Given as goal

-- the words so far are known
abbrev pub invariant-loop-word : goal.invariant-loop-word
invariant-loop-word l = All (λ word. IsTrue (is_known word.now)) (take l.word-index l.words)
