use Rattle.std.proofs.Common.{◌≡◌, take}
use Rattle.pp_lexer.proofs.token.+copy.Given as goal

-- what was copied is the front of the items
abbrev pub invariant-copies::copy_items-loop-item : goal.invariant-copies::copy_items-loop-item
invariant-copies::copy_items-loop-item l = l.copies.items ≡ take l.item-index l.items.items
