use Rattle.std.proofs.Common.{arith}
use Rattle.std.proofs.lemmas.Option.{slice_get_read}
use Rattle.pp_lexer.proofs.values.PreorderLemmas.{count_by-preorder}
use Rattle.pp_lexer.proofs.token.list.TokensIndexUsize.index.Goals as goal

pub index-requires : goal.index-requires
index-requires c = grind (arith, count_by-preorder)

pub returns : goal.returns
returns c = grind (arith, count_by-preorder, slice_get_read)
