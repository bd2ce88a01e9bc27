use Rattle.std.proofs.Common.{ap}
use Rattle.pp_lexer.specs.declared.token.TokenValue.TheVariants.{Ident}
use Rattle.pp_rs.proofs.pp.token_ref.ValueRef.of_value.Goals as goal

pub returns-in-Ident : goal.returns-in-Ident
returns-in-Ident c = rw c.in-Ident.is (ap Ident c.as_str.ensures)
