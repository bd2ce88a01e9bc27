use Rattle.std.proofs.Common.{◌≡◌, ◌++◌, string_bytes}
use Rattle.std.proofs.Math.ListN.{replicate}
use Rattle.glslpp_parts.proofs.line_names.push_blanks.Given as goal

-- as many blanks as were counted are at the end
abbrev pub invariant-loop-done : goal.invariant-loop-done
invariant-loop-done l = string_bytes l.text ≡ string_bytes l.fn.text ++ replicate l.done 32
