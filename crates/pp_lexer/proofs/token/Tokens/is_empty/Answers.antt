use Rattle.std.proofs.Common.{arith}
use Rattle.std.proofs.lemmas.Bool.Decides.{Decides-eqb}
use Rattle.pp_lexer.proofs.values.PreorderLemmas.{count_by-preorder, preorder-empty}
use Rattle.pp_lexer.proofs.token.Tokens.is_empty.Goals as goal

pub returns : goal.returns
returns c = grind (arith, preorder-empty, count_by-preorder, Decides-eqb)
