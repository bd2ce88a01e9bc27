use Rattle.std.proofs.Common.{◌≡◌, ◌++◌, string_bytes}
use Rattle.std.specs.List.{flat_map}
use Rattle.std.specs.Str.{chars}
use Rattle.glslpp_html.specs.Shown.{link_character}
use Rattle.glslpp_html.proofs.text.push_link.Given as goal

-- the characters so far are written
abbrev pub invariant-characters : goal.invariant-characters
invariant-characters l = chars (string_bytes l.link) ≡ chars (string_bytes l.fn.link) ++ flat_map link_character l.yielded
