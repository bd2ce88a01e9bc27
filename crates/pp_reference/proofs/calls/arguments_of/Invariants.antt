use Rattle.std.proofs.Common.{◌≡◌, ◌++◌, ◌∷◌, ◌+◌, ◌≤◌, length}
use Rattle.pp_model.specs.Calls.{arguments_of, pieces}
use Rattle.pp_reference.proofs.calls.arguments_of.Given as goal

abbrev pub invariant-loop-read : goal.invariant-loop-read
invariant-loop-read l = record {
  cut : arguments_of l.fn.tokens.items ≡ l.pieces.items ++ ((l.piece.items ++ (pieces l.depth l.tokens.items).first) ∷ (pieces l.depth l.tokens.items).others);
  few : l.depth + length l.tokens.items ≤ length l.fn.tokens.items;
}

abbrev pub decreases-loop-read : goal.decreases-loop-read
decreases-loop-read l = length l.tokens.items
