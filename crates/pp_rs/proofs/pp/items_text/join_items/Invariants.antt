use Rattle.std.proofs.Common.{◌≡◌, ◌++◌, drop, string_bytes}
use Rattle.pp_rs.specs.Output.{output}
use Rattle.pp_rs.specs.inner.ItemsText.{pieces}
use Rattle.pp_rs.proofs.pp.items_text.join_items.Given as goal

-- what is written, and the items after it, are the whole text
abbrev pub invariant-loop-token : goal.invariant-loop-token
invariant-loop-token l = string_bytes l.text ++ pieces l.in_line (drop l.token-index l.tokens) ≡ output l.tokens
