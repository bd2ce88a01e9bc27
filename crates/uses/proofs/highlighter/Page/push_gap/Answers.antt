use Rattle.std.proofs.Common.{codes, refl}
use Rattle.uses.proofs.Texts.{chars_same}
use Rattle.uses.proofs.highlighter.Page.push_gap.Goals as goal

pub mark-requires-clause-class : goal.mark-requires-clause-class
mark-requires-clause-class c = rw (chars_same (codes "comment") refl) refl
