use Rattle.std.proofs.Common.{sym, refl, ◌∙◌}
use Rattle.pp_model.specs.Emitting.{answers_at}
use Rattle.pp_model.proofs.values.WordLemmas.{closes, does_not_close}
use Rattle.pp_reference.proofs.line_words.closed_operand.Goals as goal

pub returns-then-is_close_paren-clause-closes : goal.returns-then-is_close_paren-clause-closes
returns-then-is_close_paren-clause-closes c =
    closes c.args.kind c.args.directive (answers_at c.args.levels) c.args.name.now c.in_ok-taken.field-0.taken _ _ c.in_ok-taken.ensures.emits.emits _
    (sym c.is_close_paren.ensures ∙ c.if-is_close_paren.true) c.is_defined.ensures

pub returns-else-is_close_paren-clause-closes : goal.returns-else-is_close_paren-clause-closes
returns-else-is_close_paren-clause-closes c =
    does_not_close c.args.kind c.args.directive (answers_at c.args.levels) c.args.name.now c.in_ok-taken.field-0.taken _ _ c.in_ok-taken.ensures.emits.emits _
    (sym c.is_close_paren.ensures ∙ c.if-is_close_paren.false) (rw (c.fault_in.ensures, c.unwanted_word-fault.ensures, c.in_ok-taken.ensures.emits.call) refl)
