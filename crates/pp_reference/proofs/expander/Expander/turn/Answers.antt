use Rattle.std.proofs.Common.{ap, sym}
use Rattle.std.proofs.lemmas.Result.{IfOk-weaker}
use Rattle.pp_reference.specs.inner.Seen.{itself, opens}
use Rattle.pp_reference.specs.declared.emitted.Emitted.{Emitted}
use Rattle.pp_reference.specs.declared.expander.Turn.TheVariants.{Item}
use Rattle.pp_reference.proofs.expander.Expander.turn.Goals as goal

pub returns-in-Ok-None-clause-turns : goal.returns-in-Ok-None-clause-turns
returns-in-Ok-None-clause-turns g c =
    itself c.in_ok-taken.taken _ _ _ c.in_ok-taken.ensures.takes (sym (rw c.in-Ok-None.field-0-is at c.in-Ok-None.ensures))
    (ap (λ (item : Emitted). Item item) (rw c.deref.ensures.value at c.emitted_among.ensures))

pub returns-in-Ok-Some-clause-turns : goal.returns-in-Ok-Some-clause-turns
returns-in-Ok-Some-clause-turns g c =
    IfOk-weaker c.turn_at.result _ _ (λ turn h. opens c.in_ok-taken.taken c.in-Ok-Some.opening turn _ _ _ c.in_ok-taken.ensures.takes
    (sym (rw c.in-Ok-Some.field-0-is at c.in-Ok-Some.ensures)) h) c.turn_at.ensures.turns
