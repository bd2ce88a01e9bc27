use Rattle.std.proofs.Common.{arith}
use Rattle.pp_lexer.proofs.values.PreorderLemmas.{count_by-preorder}
use Rattle.pp_lexer.proofs.token.Tokens.len.Goals as goal

pub returns : goal.returns
returns c = grind (arith, count_by-preorder)
