use Rattle.pp_rs.proofs.runs.RepliesLemmas.{text_answered, deep_answered}
use Rattle.pp_rs.proofs.pp.call_list.reply_to_text.Goals as goal

pub returns-in-Ok : goal.returns-in-Ok
returns-in-Ok c = text_answered c.args.pp.now c.include.new.self c.requires.unspent c.args.text.now (c.in-Ok.ensures {u = tt})

pub returns-in-Err-TooDeep : goal.returns-in-Err-TooDeep
returns-in-Err-TooDeep c =
    deep_answered c.args.pp.now c.include.new.self c.requires.unspent c.args.text.now
    (rw c.in-Err-TooDeep.field-0-is at (c.in-Err-TooDeep.ensures {u = tt}))
