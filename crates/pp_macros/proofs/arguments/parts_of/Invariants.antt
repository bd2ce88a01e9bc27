use Rattle.pp_macros.proofs.taking.PieceLemmas.{CutTo}
use Rattle.pp_macros.proofs.arguments.parts_of.Given as goal

-- the arguments before the token
abbrev pub invariant-loop-at : goal.invariant-loop-at
invariant-loop-at l = CutTo l.tokens l.parts.items l.start l.at l.depth
