use Rattle.pp_rs.proofs.runs.RepliesLemmas.{added_answered, refused_answered}
use Rattle.pp_rs.proofs.pp.call_list.reply_to_definition.Goals as goal

pub returns-in-Ok : goal.returns-in-Ok
returns-in-Ok c = added_answered c.args.pp.now c.add_define.new.self c.requires.unspent c.args.name.now c.args.content.now (c.in-Ok.ensures {u = tt})

pub returns-in_ok-reported_fault-in-Err : goal.returns-in_ok-reported_fault-in-Err
returns-in_ok-reported_fault-in-Err c =
    let reported = c.in_ok-reported_fault-in-Err.ensures {u = tt} in
    rw reported.0 (refused_answered c.args.pp.now c.add_define.new.self c.requires.unspent c.args.name.now c.args.content.now c.in-Err.fault
    (rw reported.0 at reported.1) (c.in-Err.ensures {u = tt}))
