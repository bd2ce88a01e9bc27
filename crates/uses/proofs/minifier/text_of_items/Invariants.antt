use Rattle.std.proofs.Common.{string_bytes}
use Rattle.std.specs.Str.{chars}
use Rattle.pp_rs.specs.Kept.{most_items}
use Rattle.uses.proofs.Minified.{HavePushed}
use Rattle.uses.proofs.minifier.text_of_items.Given as goal

abbrev pub invariant-items : goal.invariant-items
invariant-items l = HavePushed l.fn.pp l.pp (chars (string_bytes l.text))

abbrev pub decreases-items : goal.decreases-items
decreases-items l = most_items l.pp
