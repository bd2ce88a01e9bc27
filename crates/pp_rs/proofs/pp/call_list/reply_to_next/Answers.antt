use Rattle.pp_rs.proofs.runs.RepliesLemmas.{token_answered, end_answered, fault_answered}
use Rattle.pp_rs.proofs.pp.call_list.reply_to_next.Goals as goal

pub returns-in-Some-Ok : goal.returns-in-Some-Ok
returns-in-Some-Ok c = token_answered c.args.pp.now c.next.new.self c.requires c.in-Some-Ok.token (rw c.in-Some-Ok.field-0-is at
    (c.in-Some-Ok.ensures {u = tt}).steps)

pub returns-in-None : goal.returns-in-None
returns-in-None c = end_answered c.args.pp.now c.next.new.self c.requires (c.in-None.ensures {u = tt}).steps

pub returns-in_ok-error_outcome-in-Some-Err : goal.returns-in_ok-error_outcome-in-Some-Err
returns-in_ok-error_outcome-in-Some-Err c =
    let outcome = c.in_ok-error_outcome-in-Some-Err.ensures {u = tt} in
    rw outcome.item (fault_answered c.args.pp.now c.next.new.self c.requires c.in-Some-Err.fault c.include_line.result outcome.reported c.include_line.ensures
    (rw c.in-Some-Err.field-0-is at (c.in-Some-Err.ensures {u = tt}).steps))
