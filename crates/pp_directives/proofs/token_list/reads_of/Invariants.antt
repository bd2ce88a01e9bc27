use Rattle.std.proofs.Common.{◌≡◌, map, take}
use Rattle.pp_model.specs.Painting.{read_in}
use Rattle.pp_directives.specs.inner.TokenLists.{token_of}
use Rattle.pp_directives.proofs.token_list.reads_of.Given as goal

abbrev pub invariant-loop-token : goal.invariant-loop-token
invariant-loop-token l = l.reads.items ≡ map (λ token. read_in l.text (token_of token)) (take l.token-index l.tokens)
