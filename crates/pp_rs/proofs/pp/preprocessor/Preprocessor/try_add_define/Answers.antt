use Rattle.std.proofs.Common.{Ok, Err, refl, ap, arith}
use Rattle.pp_rs.specs.Trying.{short}
use Rattle.pp_rs.specs.declared.pp.trying.AddError.TheVariants.{Refused}
use Rattle.pp_rs.proofs.pp.preprocessor.Preprocessor.try_add_define.Goals as goal

pub returns-in-Ok : goal.returns-in-Ok
returns-in-Ok c = short (Ok tt) (omega arith) c.in-Ok.ensures refl

pub returns-in-Err : goal.returns-in-Err
returns-in-Err c = short (Err c.in-Err.fault) (omega arith) c.in-Err.ensures (ap (λ e. Err (Refused e)) c.from.ensures)
