use Rattle.std.proofs.Common.{arith}
use Rattle.pp_lexer.proofs.values.PreorderLemmas.{count_by-preorder}
use Rattle.pp_lexer.proofs.token.Tokens.iter.Goals as goal

pub returns-clause-len : goal.returns-clause-len
returns-clause-len c = grind (arith, count_by-preorder)
