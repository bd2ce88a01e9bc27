use Rattle.std.proofs.Common.{arith}
use Rattle.std.proofs.lemmas.Str.{IsAscii-take}
use Rattle.pp_lexer.proofs.lexer.plain_item.without_suffix.Goals as goal

pub returns-clause-ascii : goal.returns-clause-ascii
returns-clause-ascii c = grind (arith, IsAscii-take)
