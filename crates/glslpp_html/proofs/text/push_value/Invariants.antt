use Rattle.std.proofs.Common.{◌≡◌, ◌++◌, string_bytes}
use Rattle.std.specs.List.{flat_map}
use Rattle.std.specs.Str.{chars}
use Rattle.glslpp_html.specs.Shown.{value_character}
use Rattle.glslpp_html.proofs.text.push_value.Given as goal

-- the characters so far are written
abbrev pub invariant-characters : goal.invariant-characters
invariant-characters l = chars (string_bytes l.page) ≡ chars (string_bytes l.fn.page) ++ flat_map value_character l.yielded
