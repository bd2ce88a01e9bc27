use Rattle.std.proofs.Common.{◌≡◌, ◌++◌, drop, map, string_bytes}
use Rattle.std.specs.List.{flat_map}
use Rattle.glslpp_parts.specs.FileNames.{listed_folder, looked_in}
use Rattle.glslpp_parts.proofs.include_path.push_folders.Given as goal

-- with the folders that are left, all are appended
abbrev pub invariant-loop-other : goal.invariant-loop-other
invariant-loop-other l =
    string_bytes l.message ++ flat_map listed_folder (map (λ folder. folder.now) (drop l.other-index l.others))
    ≡ string_bytes l.fn.message ++ looked_in (map (λ folder. folder.now) l.folders)
