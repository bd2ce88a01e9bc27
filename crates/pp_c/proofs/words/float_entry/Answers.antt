use Rattle.std.proofs.Common.{arith, refl}
use Rattle.std.proofs.lemmas.Int.{to_z-of_z}
use mir.Val.{SFits}
use mir.Syntax.{w32}
use Rattle.std.specs.Int.Bits.{or_zero_r}
use Rattle.std.proofs.lemmas.Str.{encodes-chars}
use Rattle.pp_c.proofs.words.float_entry.Goals as goal

pub returns : goal.returns
returns c =
    let f : SFits w32 c.args.width = grind arith in
    rw (c.item_at-item.ensures, or_zero_r c.args.flags, encodes-chars c.args.digits.now c.utf8.digits) (simp to_z-of_z refl)
