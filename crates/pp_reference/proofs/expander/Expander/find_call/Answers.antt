use Rattle.std.proofs.Common.{refl, ap, ◌∙◌}
use Rattle.pp_model.specs.Calls.{Gathered, arguments_of}
use Rattle.pp_reference.specs.inner.Seen.{nothing, broken, whole}
use Rattle.pp_reference.proofs.expander.Expander.find_call.Goals as goal

pub returns-in_default-clause-finds : goal.returns-in_default-clause-finds
returns-in_default-clause-finds g c =
    nothing _ _ _ (rw c.in_default.is at c.in_ok-paren.ensures.takes) refl

pub returns-in_ok-arguments-in-Ok-clause-finds : goal.returns-in_ok-arguments-in-Ok-clause-finds
returns-in_ok-arguments-in-Ok-clause-finds g c =
    whole c.in-Ok.gathered _ _ _ _ _ (rw c.in-Some.is at c.in_ok-paren.ensures.takes) (rw c.in-Ok.is at c.in_ok-gathered.ensures.gathers)
    (ap (λ (e : Gathered). e.closing.line) c.gathered.view_is)
    (c.in_ok-arguments-in-Ok.ensures ∙ ap (λ (e : Gathered). arguments_of e.tokens) c.gathered.view_is) refl

pub returns-in-Err-clause-finds : goal.returns-in-Err-clause-finds
returns-in-Err-clause-finds g c =
    broken c.in-Some.paren c.in-Err.fault _ _ _ _ (rw c.in-Some.is at c.in_ok-paren.ensures.takes) (rw c.in-Err.is at c.in_ok-gathered.ensures.gathers) refl
