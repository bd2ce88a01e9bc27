use Rattle.pp_rs.proofs.pp.spelling.push_value.Goals as goal

pub returns-clause-appended : goal.returns-clause-appended
returns-clause-appended c = rw (← c.of_value.ensures) c.push_to.ensures.appended
