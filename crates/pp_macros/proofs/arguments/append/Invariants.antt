use Rattle.std.proofs.Common.{◌≡◌, ◌++◌, take, drop}
use Rattle.pp_macros.proofs.arguments.append.Given as goal

-- the tokens before this one are moved, and the others are where they were
abbrev pub invariant-loop-at : goal.invariant-loop-at
invariant-loop-at l = record {
  moved : l.items.items ≡ l.fn.items.items ++ take l.at l.fn.tokens;
  left : drop l.at l.tokens ≡ drop l.at l.fn.tokens;
}
