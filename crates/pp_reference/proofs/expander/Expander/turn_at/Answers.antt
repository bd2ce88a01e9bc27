use Rattle.std.proofs.Common.{refl, sym, ◌∙◌}
use Rattle.pp_reference.specs.inner.Seen.{object, function}
use Rattle.pp_reference.proofs.expander.Expander.turn_at.Goals as goal

pub returns-then-not-is_function_like-clause-turns : goal.returns-then-not-is_function_like-clause-turns
returns-then-not-is_function_like-clause-turns g c =
    object _ _ _ (sym c.is_function_like.ensures ∙ c.if-not-is_function_like.true) refl c.in_ok-replace.ensures

pub returns-in-Ok-clause-turns : goal.returns-in-Ok-clause-turns
returns-in-Ok-clause-turns g c =
    function c.in-Ok.found _ _ _ (sym c.is_function_like.ensures ∙ c.if-not-is_function_like.false) c.in-Ok.ensures.finds
    (rw (c.outermost_call-call.ensures, c.deref.ensures.value, c.deref-in-Ok.ensures.value) at c.turn_after_name.ensures)
