use Rattle.std.proofs.Common.{◌∷◌, map, take, length}
use Rattle.pp_rs.specs.Preorder.{leaf_of}
use Rattle.pp_c.specs.Entries.{in_32_bits}
use Rattle.pp_c.specs.Tokens.{leaf_entry}
use Rattle.pp_c.specs.inner.Taking.{Takes, outer_entry}
use Rattle.pp_c.proofs.preprocessing.give_value.Given as goal

abbrev pub invariant-loop-token : goal.invariant-loop-token
invariant-loop-token l =
    Takes l.fn.output (leaf_entry l.fn.place 0 (in_32_bits (length l.line)) (leaf_of l.fn.value) ∷ map outer_entry (take l.token-index l.line)) l.output
