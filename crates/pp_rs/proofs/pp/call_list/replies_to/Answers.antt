use Rattle.std.proofs.Common.{◌∙◌, ◌+◌, ap, arith, map, sym, take}
use Rattle.std.proofs.lemmas.List.{take_all}
use Rattle.pp_model.specs.Run.{call_of}
use Rattle.pp_rs.proofs.runs.RepliesLemmas.{replied_none, replied_more, replied_all, calls_more}
use Rattle.pp_rs.proofs.pp.call_list.replies_to.Goals as goal

pub loop-call-init : goal.loop-call-init
loop-call-init c = replied_none c.args.pp.now c.new-replies.result.items c.requires.unspent c.new-replies.ensures.items

pub reply_to-requires-clause-unspent : goal.reply_to-requires-clause-unspent
reply_to-requires-clause-unspent c = c.loop-call.invariant.unspent

pub loop-call-preserved : goal.loop-call-preserved
loop-call-preserved c =
    let i = c.loop-call.call-index in
    replied_more c.args.pp.now
    (map call_of (take i c.args.calls.now)) _ c.loop-call.replies.items c.in_ok-reply.reply c.loop-call.pp c.reply_to.new.pp
    c.loop-call.invariant (map call_of (take (i + 1) c.args.calls.now)) c.push.new.self.items
    (c.in_ok-reply.ensures {u = tt}) (calls_more c.args.calls.now i _ c.loop-call-test.true)
    (c.in_ok-push.ensures {u = tt}).items

pub returns : goal.returns
returns c = replied_all c.args.pp.now (map call_of c.args.calls.now)
    (map call_of (take c.loop-call.call-index c.args.calls.now)) c.loop-call.replies.items c.loop-call.pp c.loop-call.invariant
    (ap (map call_of) (sym (take_all c.loop-call.call-index c.args.calls.now (omega (arith, c.loop-call-test.false)))))
