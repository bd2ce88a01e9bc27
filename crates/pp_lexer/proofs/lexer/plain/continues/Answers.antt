-- The table is compared with the definition at each of the 256 bytes, by computing.
use Rattle.std.proofs.Common.{not, nat_eq, get_or, refl, arith}
use Rattle.std.proofs.lemmas.Bool.{agree_below_at}
use Rattle.pp_lexer.specs.declared.lexer.plain.TheConstants.{CONTINUING}
use Rattle.pp_lexer.specs.inner.PlainWords.{continues}
use Rattle.pp_lexer.proofs.lexer.plain.continues.Goals as goal

pub returns : goal.returns
returns c = agree_below_at (λ k. not (nat_eq (get_or CONTINUING k 0) 44)) continues 256 c.args.byte refl (omega arith)
