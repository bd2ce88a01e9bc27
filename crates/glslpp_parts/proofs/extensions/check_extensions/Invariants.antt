use Rattle.std.proofs.Common.{take}
use Rattle.std.specs.Prelude.{All}
use Rattle.glslpp_parts.specs.Definitions.{IsFreeName}
use Rattle.glslpp_parts.proofs.extensions.check_extensions.Given as goal

-- the names so far are free
abbrev pub invariant-loop-name : goal.invariant-loop-name
invariant-loop-name l = All (λ name. IsFreeName name.now) (take l.name-index l.names)
