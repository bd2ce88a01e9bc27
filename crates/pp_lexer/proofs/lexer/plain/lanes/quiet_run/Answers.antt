use Rattle.std.proofs.Common.{◌≡◌, leb, cond, bit_or, refl, length}
use Rattle.std.proofs.lemmas.Simd.{zip2_splat, zip2_of_maps, zip2_splat_left, length-chunk}
use lib.Lanes.{chunk}
use Rattle.pp_lexer.specs.inner.Fronts.{is_quiet}
use Rattle.pp_lexer.proofs.characters.LanesLemmas.{run_within, run_passes}
use Rattle.pp_lexer.proofs.lexer.plain.lanes.quiet_run.Goals as goal

pub returns : goal.returns
returns c =
    let d = c.args.bytes.now in
    let v = chunk 0 16 d in
    let long : length v ≡ 16 = length-chunk 0 16 d c.requires in
    let lanes =
    zip2_of_maps bit_or _ _ v
    (zip2_of_maps bit_or _ _ v
    (zip2_of_maps bit_or _ _ v (zip2_of_maps bit_or _ _ v (zip2_splat _ v 16 42 long) (zip2_splat _ v 16 10 long)) (zip2_splat _ v 16 13 long))
    (zip2_splat _ v 16 92 long))
    (zip2_splat_left (λ a b. cond (leb a b) 255 0) 128 16 v long) in
    record {
      within = run_within is_quiet d _ _ c.requires c.type_inv.bytes c.first_set.ensures _ lanes refl;
      passes = run_passes is_quiet d _ _ c.requires c.type_inv.bytes c.first_set.ensures _ lanes refl;
    }
