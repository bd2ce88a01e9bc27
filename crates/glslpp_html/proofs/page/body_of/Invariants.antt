use Rattle.std.proofs.Common.{◌++◌, string_bytes, take}
use Rattle.std.specs.List.{flat_map}
use Rattle.std.specs.Str.{chars}
use Rattle.glslpp_html.specs.Pages.{text_of_part}
use Rattle.glslpp_html.specs.Shown.{Shows}
use Rattle.glslpp_html.proofs.page.body_of.Given as goal

-- the command and the parts so far are shown
abbrev pub invariant-loop-part : goal.invariant-loop-part
invariant-loop-part l = Shows (chars (string_bytes l.body)) (chars l.command ++ flat_map text_of_part (take l.part-index l.parts))
