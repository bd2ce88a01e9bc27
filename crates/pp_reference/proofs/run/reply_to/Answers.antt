use Rattle.std.proofs.Common.{ap}
use Rattle.pp_model.specs.declared.call.Reply.TheVariants as reply
use Rattle.pp_reference.specs.inner.SeenSource.{given}
use Rattle.pp_reference.proofs.run.reply_to.Goals as goal

pub returns-in_ok-item-in-Next : goal.returns-in_ok-item-in-Next
returns-in_ok-item-in-Next c = rw c.in-Next.is (given c.in_ok-item-in-Next.item.taken _ _ _
    (rw c.expansion_limit.ensures at (c.in_ok-item-in-Next.ensures {u = tt}).emits).emits (ap reply.Given c.into_item.ensures))
