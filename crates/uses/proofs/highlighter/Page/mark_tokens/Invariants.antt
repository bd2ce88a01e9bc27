use Rattle.std.proofs.Common.{◌≡◌, ◌+◌, if◌then◌else◌, length}
use Rattle.uses.specs.Pages.{IsWritten}
use Rattle.uses.proofs.highlighter.Page.mark_tokens.Given as goal

abbrev pub invariant-items : goal.invariant-items
invariant-items l = record { written : IsWritten l.self; source : l.self.source.now ≡ l.fn.self.source.now }

abbrev pub decreases-items : goal.decreases-items
decreases-items l = if l.lexer.spent then 0 else length l.lexer.rest + 1
