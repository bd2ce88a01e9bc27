use Rattle.std.proofs.Common.{Ok, ap}
use Rattle.pp_lexer.proofs.values.EqualityLemmas.{value_decides}
use Rattle.pp_rs.proofs.pp.afresh.has_value.Goals as goal

pub returns-in-Ok : goal.returns-in-Ok
returns-in-Ok c =
    let d = value_decides c.in-Ok.given.value c.args.token.now.value in
    rw c.in-Ok.is (rw c.eq.ensures (λ t. ap Ok (d.0 t), λ e. d.1 cc))
