use Rattle.std.proofs.Common.{◌≡◌, refl, [], ◌∷◌, true, false}
use Rattle.pp_c.proofs.BatchLemmas.{fits_by, fits_then}
use Rattle.pp_c.specs.inner.Taking.{entry_in}
use Rattle.pp_c.proofs.output.Output.take_if_room.Goals as goal

pub returns : goal.returns
returns c =
    let fits = c.has_room.ensures.room.0 c.if-not-has_room.false in (
      c.take.ensures,
      λ room. fits_by c.args.self.now (entry_in c.args.one ∷ []) c.has_room.ensures.small room (rw c.room.ensures at fits.0) (rw c.room.ensures at fits.1),
    )

pub returns-then-not-has_room : goal.returns-then-not-has_room
returns-then-not-has_room c = (
  refl,
  λ room have.
      let fits = fits_then c.args.self.now (entry_in c.args.one ∷ []) have in
      let over : false ≡ true = (c.if-not-has_room.ensures {u = tt}).room.1 (rw c.room.ensures fits.0, rw c.room.ensures fits.1) in
      cc,
)
