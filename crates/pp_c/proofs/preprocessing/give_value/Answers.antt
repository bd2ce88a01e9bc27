use Rattle.std.proofs.Common.{◌∷◌, [], length, map, take, arith}
use Rattle.std.proofs.lemmas.List.{map_more, take_all}
use Rattle.pp_rs.specs.Preorder.{leaf_of}
use Rattle.pp_c.proofs.HeldLemmas.{token_entries_by}
use Rattle.pp_c.proofs.TakingLemmas.{takes_more}
use Rattle.pp_c.specs.Entries.{in_32_bits}
use Rattle.pp_c.specs.Tokens.{leaf_entry}
use Rattle.pp_c.specs.inner.Taking.{outer_entry}
use Rattle.pp_c.proofs.preprocessing.give_value.Goals as goal

pub loop-token-preserved : goal.loop-token-preserved
loop-token-preserved c =
    let first = leaf_entry c.args.place 0 (in_32_bits (length c.tokens_of-line.result.now)) (leaf_of c.args.value.now) in
    rw (map_more outer_entry c.tokens_of-line.result.now c.loop-token.token-index c.token-item.result (omega arith), ← c.token-item.is)
    (takes_more c.args.output.now c.loop-token.output c.give_word-in-loop-token.new.output
    (first ∷ map outer_entry (take c.loop-token.token-index c.tokens_of-line.result.now)) (outer_entry c.token-item.result ∷ [])
    (omega arith) (omega arith) c.loop-token.invariant c.give_word-in-loop-token.ensures)

pub returns : goal.returns
returns c =
    rw (token_entries_by c.args.place c.args.value.now c.tokens_of-line.result.now c.tokens_of-line.ensures.held)
    (rw (take_all c.loop-token.token-index c.tokens_of-line.result.now (omega arith)) at c.loop-token.invariant)
