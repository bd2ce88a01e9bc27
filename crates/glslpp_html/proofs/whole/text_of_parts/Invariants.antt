use Rattle.std.proofs.Common.{◌≡◌, string_bytes, take}
use Rattle.std.specs.List.{flat_map}
use Rattle.std.specs.Str.{chars}
use Rattle.glslpp_html.specs.Pages.{text_in_file}
use Rattle.glslpp_html.proofs.whole.text_of_parts.Given as goal

-- the parts so far are written
abbrev pub invariant-loop-part : goal.invariant-loop-part
invariant-loop-part l = chars (string_bytes l.text) ≡ flat_map (text_in_file l.number) (take l.part-index l.parts)
