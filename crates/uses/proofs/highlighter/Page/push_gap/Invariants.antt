use Rattle.std.proofs.Common.{◌≡◌}
use Rattle.uses.specs.Pages.{IsWritten}
use Rattle.uses.proofs.highlighter.Page.push_gap.Given as goal

abbrev pub invariant-comments : goal.invariant-comments
invariant-comments l = record { written : IsWritten l.self; source : l.self.source.now ≡ l.fn.self.source.now }
