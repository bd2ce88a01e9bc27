use Rattle.std.proofs.Common.{◌≡◌, ◌∙◌, ◌++◌, true, false, arith, codes, map, nat_eq, string_bytes, sym}
use Rattle.std.specs.List.{slice_index}
use Rattle.glslpp_parts.specs.FileNames.{looked_in}
use Rattle.glslpp_parts.proofs.FileNamesLemmas.{elsewhere, nowhere_else}
use Rattle.glslpp_parts.proofs.include_path.not_found.Goals as goal

pub returns-then-starts_with : goal.returns-then-starts_with
returns-then-starts_with c =
    let name = c.args.header.name.now in
    let test = c.starts_with.ensures.byte (omega arith) (omega arith) (λ w o found. found) in
    nowhere_else (string_bytes c.in_ok-message.message) (codes "`" ++ name ++ codes "` isn't found") (looked_in (map (λ folder. folder.now) c.args.folders.now))
    (nat_eq (slice_index name 0) 47) c.in_ok-message.ensures.ok (sym test ∙ c.if-starts_with.true)

pub returns : goal.returns
returns c =
    let name = c.args.header.name.now in
    let test = c.starts_with.ensures.byte (omega arith) (omega arith) (λ w o found. found) in
    elsewhere (string_bytes c.push_folders.new.message) (string_bytes c.in_ok-message.message) (codes "`" ++ name ++ codes "` isn't found")
    (looked_in (map (λ folder. folder.now) c.args.folders.now)) (nat_eq (slice_index name 0) 47) c.in_ok-message.ensures.ok
    (c.in_ok-push_folders.ensures {u = tt}) (sym test ∙ c.if-starts_with.false)
