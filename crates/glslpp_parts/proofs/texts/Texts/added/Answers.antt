use Rattle.std.proofs.Common.{◌≡◌, ◌+◌, ap, sym, arith}
use Rattle.glslpp_parts.specs.Texts.{Texts}
use Rattle.glslpp_parts.proofs.TextsLemmas.{added_lent}
use Rattle.glslpp_parts.proofs.texts.Texts.added.Goals as goal

pub returns : goal.returns
returns c =
    let is : c.args.number ≡ c.in_ok-index.index + 1 = omega (arith, c.in_ok-index.ensures) in
    added_lent c.self.inside.added.items c.args.self.now.added c.args.number c.in_ok-index.index c.get.result c.copied.result is
    (sym (ap (λ (texts : Texts). texts.added) c.self.view_is)) (rw c.deref.ensures.value at c.get.ensures.lookup) c.copied.ensures
