use Rattle.std.proofs.Common.{◌≡◌, leb, cond, bit_and, bit_or, refl, length}
use Rattle.std.proofs.lemmas.Simd.{zip2_splat, zip2_of_maps, zip2_splat_left, length-chunk}
use lib.Lanes.{chunk}
use Rattle.pp_lexer.specs.inner.Tame.{is_free}
use Rattle.pp_lexer.proofs.characters.LanesLemmas.{run_within, run_passes}
use Rattle.pp_lexer.proofs.lexer.plain.lanes.free_run.Goals as goal

pub returns : goal.returns
returns c =
    let d = c.args.bytes.now in
    let v = chunk 0 16 d in
    let long : length v ≡ 16 = length-chunk 0 16 d c.requires in
    let digits = zip2_of_maps bit_and _ _ v (zip2_splat_left (λ a b. cond (leb a b) 255 0) 47 16 v long) (zip2_splat _ v 16 57 long) in
    let controls = zip2_of_maps bit_and _ _ v (zip2_splat _ v 16 31 long) (zip2_splat _ v 16 9 long) in
    let quotes =
    zip2_of_maps bit_or _ _ v
    (zip2_of_maps bit_or _ _ v
    (zip2_of_maps bit_or _ _ v (zip2_of_maps bit_or _ _ v (zip2_of_maps bit_or _ _ v digits controls) (zip2_splat _ v 16 34 long)) (zip2_splat _ v 16 35 long))
    (zip2_splat _ v 16 36 long))
    (zip2_splat _ v 16 39 long) in
    let lanes =
    zip2_of_maps bit_or _ _ v
    (zip2_of_maps bit_or _ _ v
    (zip2_of_maps bit_or _ _ v (zip2_of_maps bit_or _ _ v quotes (zip2_splat _ v 16 64 long)) (zip2_splat _ v 16 92 long))
    (zip2_splat _ v 16 96 long))
    (zip2_splat_left (λ a b. cond (leb a b) 255 0) 127 16 v long) in
    record {
      within = run_within is_free d _ _ c.requires c.type_inv.bytes c.first_set.ensures _ lanes refl;
      passes = run_passes is_free d _ _ c.requires c.type_inv.bytes c.first_set.ensures _ lanes refl;
    }
