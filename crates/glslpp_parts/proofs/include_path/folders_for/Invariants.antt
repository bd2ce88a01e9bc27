use Rattle.std.proofs.Common.{◌≡◌, ◌++◌, drop, map}
use Rattle.glslpp_parts.specs.FileNames.{new_among, own_folder}
use Rattle.glslpp_parts.proofs.include_path.folders_for.Given as goal

-- with the folders that are left, these are all
abbrev pub invariant-loop-folder : goal.invariant-loop-folder
invariant-loop-folder l =
    map (λ folder. folder.now) l.all.items ++ new_among (map (λ folder. folder.now) l.all.items) (map (λ folder. folder.now) (drop l.folder-index l.folders))
    ≡ own_folder l.header l.includer ++ new_among (own_folder l.header l.includer) (map (λ folder. folder.now) l.folders)
