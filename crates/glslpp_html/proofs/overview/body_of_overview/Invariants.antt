use Rattle.std.proofs.Common.{◌++◌, string_bytes, take}
use Rattle.std.specs.List.{flat_map}
use Rattle.std.specs.Str.{chars}
use Rattle.glslpp_html.specs.Pages.{text_of_entry}
use Rattle.glslpp_html.specs.Shown.{Shows}
use Rattle.glslpp_html.proofs.overview.body_of_overview.Given as goal

-- the command and the pages so far are shown
abbrev pub invariant-loop-index : goal.invariant-loop-index
invariant-loop-index l = Shows (chars (string_bytes l.body)) (chars l.command ++ flat_map text_of_entry (take l.index-counter l.entries))
