use Rattle.std.proofs.Common.{◌≡◌, ◌++◌, drop, map, string_bytes}
use Rattle.std.specs.List.{flat_map}
use Rattle.glslpp_parts.specs.Changes.{define_lines, inclusion_line, lines_before}
use Rattle.glslpp_parts.proofs.changes.lines_before.Given as goal

-- with the lines of the changes that are left, these are the lines of all
abbrev pub invariant-loop-index : goal.invariant-loop-index
invariant-loop-index l = string_bytes l.lines ++ define_lines (drop l.index l.changes) ≡ define_lines l.changes

-- with the lines of the files that are left, these are all lines
abbrev pub invariant-loop-file : goal.invariant-loop-file
invariant-loop-file l =
    string_bytes l.lines ++ flat_map inclusion_line (map (λ file. file.now) (drop l.file-index l.files))
    ≡ lines_before l.changes (map (λ file. file.now) l.files)
