use Rattle.std.proofs.Common.{◌≡◌, ◌++◌, drop, map}
use Rattle.glslpp_parts.specs.Extensions.{as_defined}
use Rattle.glslpp_parts.specs.Version.{said}
use Rattle.glslpp_parts.proofs.extensions.push_extensions.Given as goal

-- with the names that are left, all are appended
abbrev pub invariant-loop-name : goal.invariant-loop-name
invariant-loop-name l =
    said l.changes.items ++ map as_defined (drop l.name-index l.names) ≡ said l.fn.changes.items ++ map as_defined l.names
