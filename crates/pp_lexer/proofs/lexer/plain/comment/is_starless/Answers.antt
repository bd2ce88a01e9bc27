-- The table is compared with the definition at each of the 256 bytes, by computing.
use Rattle.std.proofs.Common.{nat_eq, get_or, refl, arith}
use Rattle.std.proofs.lemmas.Bool.{agree_below_at}
use Rattle.pp_lexer.specs.declared.lexer.plain.comment.TheConstants.{STARLESS}
use Rattle.pp_lexer.specs.inner.Fronts.{is_starless}
use Rattle.pp_lexer.proofs.lexer.plain.comment.is_starless.Goals as goal

pub returns : goal.returns
returns c = agree_below_at (λ k. nat_eq (get_or STARLESS k 0) 46) is_starless 256 c.args.byte refl (omega arith)
