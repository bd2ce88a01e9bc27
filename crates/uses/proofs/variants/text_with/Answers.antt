use Rattle.std.proofs.Common.{codes, refl}
use Rattle.uses.proofs.Texts.{chars_same}
use Rattle.uses.proofs.OneVariant.{defined, variant_of}
use Rattle.uses.proofs.variants.text_with.Goals as goal

pub returns : goal.returns
returns c = λ source stands. variant_of c.args.pp.now c.try_add_define.new.self (codes "QUALITY") c.args.content.now source _ (chars_same (codes "QUALITY") refl)
    (defined c.args.pp.now c.try_add_define.new.self (codes "QUALITY") c.args.content.now (rw c.in_ok-context.ensures at c.try_add_define.ensures) c.requires.rules)
    c.in_ok-text_of_rest.ensures stands
