use Rattle.std.proofs.Common.{◌≡◌, ◌++◌, List, ℕ, string_bytes}
use Rattle.std.specs.Str.{chars}
use Rattle.glslpp_parts.specs.FileNames.{escaped, escaped_after}
use Rattle.glslpp_parts.proofs.dependencies.push_name.Given as goal

-- with the characters that are left, escaped, the text has the whole name
abbrev pub invariant-characters : goal.invariant-characters
invariant-characters l =
    (rest : List ℕ) → chars (string_bytes l.text) ++ escaped_after (chars (string_bytes l.backslashes)) rest
    ≡ chars (string_bytes l.fn.text) ++ escaped (l.yielded ++ rest)
