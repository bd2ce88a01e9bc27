use Rattle.std.proofs.Common.{◌∙◌, ap, map, sym}
use Rattle.std.proofs.lemmas.List.{take_all}
use Rattle.std.proofs.lemmas.Simd.{map-map}
use Rattle.pp_model.specs.Painting.{read_in}
use Rattle.pp_directives.specs.inner.TokenLists.{token_of}
use Rattle.pp_directives.proofs.token_list.reads_of.Goals as goal

pub returns : goal.returns
returns c =
    c.loop-token.invariant ∙ ap (map (λ token. read_in c.args.text (token_of token))) (take_all c.loop-token.token-index c.args.tokens.now c.loop-token-test.false)
    ∙ sym (map-map (read_in c.args.text) token_of c.args.tokens.now)
