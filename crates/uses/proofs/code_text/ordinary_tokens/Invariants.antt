use Rattle.std.proofs.Common.{length}
use Rattle.uses.proofs.CodeText.{Kept}
use Rattle.uses.proofs.code_text.ordinary_tokens.Given as goal

abbrev pub invariant-loop-item : goal.invariant-loop-item
invariant-loop-item l = Kept l.fn.items.items (length l.yielded) l.tokens.items
