use Rattle.std.proofs.Common.{refl}
use Rattle.std.specs.Int.Bits.{or_zero_r}
use Rattle.std.proofs.lemmas.Str.{encodes-chars}
use Rattle.pp_c.proofs.words.name_entry.Goals as goal

pub returns : goal.returns
returns c = rw (c.item_at.ensures, or_zero_r c.args.flags, encodes-chars c.args.name.now c.utf8.name) refl
