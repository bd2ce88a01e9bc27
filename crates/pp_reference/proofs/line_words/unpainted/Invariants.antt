use Rattle.std.proofs.Common.{◌≡◌, ◌++◌, map}
use Rattle.std.specs.Vec.Iter.{into_iter_items}
use Rattle.pp_model.specs.Painting.{read_in}
use Rattle.pp_reference.proofs.line_words.unpainted.Given as goal

abbrev pub invariant-loop-token : goal.invariant-loop-token
invariant-loop-token l = l.reads.items ++ map (read_in l.fn.text) (into_iter_items l.token-iterator) ≡ map (read_in l.fn.text) l.fn.tokens.items
