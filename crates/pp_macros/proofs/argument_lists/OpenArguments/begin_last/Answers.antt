use Rattle.std.proofs.Common.{◌≡◌, arith, refl, length, Some, slice_get}
use Rattle.std.proofs.lemmas.Option.{slice_get_read}
use Rattle.pp_macros.proofs.taking.PartLemmas.{argument_is}
use Rattle.pp_macros.proofs.taking.LastPartLemmas.{emptied_apart, emptied_order, lists_emptied}
use Rattle.pp_macros.proofs.argument_lists.OpenArguments.begin_last.Goals as goal

pub invariant_of-self : goal.invariant_of-self
invariant_of-self c =
    let parts = c.self.inside.parts.items in
    let part = c.index-list.result.now in
    let at : slice_get parts c.args.index ≡ Some part
    = slice_get_read parts (length parts) c.args.index part refl (omega arith) c.index-list.ensures in (
      c.self.invariant.0,
      emptied_order 0 (length c.self.inside.tokens.items) parts c.args.index part c.self.invariant.1 at,
      λ last. emptied_apart 0 (length c.self.inside.tokens.items) parts c.args.index part c.self.invariant.1 at,
    )

pub returns : goal.returns
returns c =
    let parts = c.self.inside.parts.items in
    let part = c.index-list.result.now in
    let at : slice_get parts c.args.index ≡ Some part
    = slice_get_read parts (length parts) c.args.index part refl (omega arith) c.index-list.ensures in
    rw (
      ← c.self.view_is,
      lists_emptied c.self.inside.tokens.items parts c.args.index part,
      argument_is c.self.inside.tokens.items parts c.args.index part at,
    )
    refl
