use Rattle.std.proofs.Common.{◌∙◌, ◌++◌, ◌+◌, ap, drop, map, sym}
use Rattle.std.proofs.lemmas.List.{drop_more}
use Rattle.glslpp_parts.specs.FileNames.{new_among}
use Rattle.glslpp_parts.proofs.FileNamesLemmas.{one_more_name}
use Rattle.glslpp_parts.proofs.include_path.folders_for.Goals as goal

pub loop-folder-preserved : goal.loop-folder-preserved
loop-folder-preserved c =
    let old = map (λ folder. folder.now) c.loop-folder.all.items in
    let left = c.args.folders.now in
    let i = c.loop-folder.folder-index in
    one_more_name old (map (λ folder. folder.now) c.push_new.new.names.items) (map (λ folder. folder.now) (drop (i + 1) left)) _
    (c.in_ok-push_new.ensures {u = tt})
    ∙ ap (λ rest. old ++ new_among old (map (λ folder. folder.now) rest)) (sym (drop_more left i _ c.loop-folder-test.true)) ∙ c.loop-folder.invariant
