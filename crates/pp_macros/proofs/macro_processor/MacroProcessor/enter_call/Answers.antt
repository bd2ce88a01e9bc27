use Rattle.std.proofs.Common.{◌∙◌, sym, ap, inl, refl, Err}
use Rattle.std.proofs.lemmas.Result.{err_from_is_err_and}
use Rattle.pp_macros.proofs.open_frames.KnownLemmas.{paren_known}
use Rattle.pp_macros.proofs.taking.SeekLemmas.{enters_nothing, enters_whole, enters_halt}
use Rattle.pp_macros.proofs.macro_processor.MacroProcessor.enter_call.Goals as goal

pub returns-in_default-clause-enters : goal.returns-in_default-clause-enters
returns-in_default-clause-enters g c = inl (rw c.put_back.ensures
    (enters_nothing c.args.read c.args.opened.value _ c.take_next-next.new.self.here _ _ _ c.requires.function c.take_next-next.ensures.takes _
    (sym c.paren_of.ensures ∙ c.in_default.is) (sym c.is_out_of_memory_step.ensures ∙ c.if-is_out_of_memory_step.false) refl))

pub gather-requires-clause-known : goal.gather-requires-clause-known
gather-requires-clause-known g c = rw c.take_tokens.ensures.same
    (paren_known _ c.in-Some.paren c.args.self.now c.take_next-next.new.self _ _ c.take_next-next.ensures.takes (sym c.paren_of.ensures ∙ c.in-Some.is)
    c.take_next-next.ensures.below c.requires.known)

pub returns-in_err-closing-clause-enters : goal.returns-in_err-closing-clause-enters
returns-in_err-closing-clause-enters g c =
    let e = err_from_is_err_and c.from_residual-in_err-closing.result c.from_residual-in_err-closing.ensures.1 in
    enters_halt c.args.read c.args.opened.value _ c.take_next-next.new.self.here _ _ _ c.requires.function c.take_next-next.ensures.takes
    c.in-Some.paren (sym c.paren_of.ensures ∙ c.in-Some.is) _ _ c.in_err-closing.field-0.0 _ _
    (rw c.take_tokens.ensures.same at (c.in_err-closing.ensures {u = tt}).gathers) (e.1 ∙ ap Err e.2)

pub returns-clause-enters : goal.returns-clause-enters
returns-clause-enters g c =
    inl (enters_whole c.args.read c.args.opened.value _ c.take_next-next.new.self.here _ _ _ c.requires.function c.take_next-next.ensures.takes
    c.in-Some.paren (sym c.paren_of.ensures ∙ c.in-Some.is) _ _ (record { tokens = c.gather.new.tokens.items; closing = c.in_ok-closing.closing })
    (rw c.take_tokens.ensures.same at (c.in_ok-closing.ensures {u = tt}).gathers))
