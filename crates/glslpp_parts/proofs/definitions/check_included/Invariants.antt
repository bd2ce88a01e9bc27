use Rattle.std.proofs.Common.{take}
use Rattle.std.specs.Prelude.{All, IsTrue}
use Rattle.glslpp_parts.specs.Definitions.{can_be_quoted}
use Rattle.glslpp_parts.proofs.definitions.check_included.Given as goal

-- the names so far can stand there
abbrev pub invariant-loop-file : goal.invariant-loop-file
invariant-loop-file l = All (λ file. IsTrue (can_be_quoted file.now)) (take l.file-index l.files)
