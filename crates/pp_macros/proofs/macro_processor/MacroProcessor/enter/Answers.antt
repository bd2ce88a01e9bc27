use Rattle.std.proofs.Common.{◌∙◌, sym, ap, inl, refl}
use Rattle.pp_macros.proofs.taking.SeekLemmas.{follows_plain, follows_called}
use Rattle.pp_macros.specs.inner.Defined.{Macro}
use Rattle.pp_macros.proofs.macro_processor.MacroProcessor.enter.Goals as goal

pub returns-then-is_function_like-clause-follows : goal.returns-then-is_function_like-clause-follows
returns-then-is_function_like-clause-follows g c = follows_called c.args.read _ _ _ _ _ _ c.requires.opens c.enter_call.ensures.enters

pub returns-clause-follows : goal.returns-clause-follows
returns-clause-follows g c = rw (c.in_ok-open_bare.ensures {u = tt}).ok
    (follows_plain c.args.read _ _ _ _ _ c.requires.opens
    (ap (λ (m : Macro). m.definition.function_like) (sym c.deref.ensures) ∙ sym c.is_function_like.ensures ∙ c.if-is_function_like.false) (inl (refl, refl)))
