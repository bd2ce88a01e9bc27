use Rattle.pp_model.specs.Emitting.{answers_at, expansion_limit}
use Rattle.pp_reference.specs.inner.Seen.{seen}
use Rattle.pp_reference.specs.inner.SeenSource.{source_state}
use Rattle.pp_reference.proofs.RunProgramLemmas.{runs_none, runs_on, no_calls}
use Rattle.pp_reference.proofs.SourceStepLemmas.{ok_more}
use Rattle.pp_reference.proofs.run.+replies.Goals as goal

pub returns-in_default : goal.returns-in_default
returns-in_default t c = runs_none (answers_at expansion_limit) c.args.rules (seen source_state c.args.expander.now) c.args.calls.now c.new.result.items
    (no_calls c.args.calls.now (c.in_default.ensures {u = tt}).cases) c.new.ensures.items

pub returns-in-Ok : goal.returns-in-Ok
returns-in-Ok t c =
    ok_more _ _ c.with_reply.result
    (λ replies is. runs_on (answers_at expansion_limit) c.args.rules (seen source_state c.args.expander.now)
    (seen source_state c.reply_to.new.expander) c.args.calls.now c.in-Some.call.now c.in-Some.others.now c.in_ok-reply.reply
    c.in-Ok.rest.items replies.items (c.in-Some.ensures {u = tt}).cases.0 (c.in_ok-reply.ensures {u = tt})
    (c.in-Ok.ensures {u = tt}) is)
    c.with_reply.ensures
