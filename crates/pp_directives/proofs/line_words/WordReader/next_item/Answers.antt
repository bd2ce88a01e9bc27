use Rattle.std.proofs.Common.{◌∙◌, ap, refl, subst}
use Rattle.std.specs.Prelude.{Err}
use Rattle.pp_macros.specs.inner.Finishing.{Finishes}
use Rattle.pp_macros.specs.inner.Frames.{names_of}
use Rattle.pp_macros.proofs.work.CallFallsLemmas.{call_free}
use Rattle.pp_directives.proofs.LineReadLemmas.{items_start, items_token, items_token_less, items_end, items_pause, items_pause_less, items_fault, items_call, items_call_less, items_call_fault}
use Rattle.pp_directives.proofs.LineKnownLemmas.{line_call_known, line_known}
use Rattle.pp_directives.proofs.line_words.WordReader.next_item.Goals as goal

pub items-init : goal.items-init
items-init c = items_start _ _ _ _ _ c.requires

pub step_list-requires : goal.step_list-requires
step_list-requires c = line_known _ _ c.items.line.expander c.items.line.lexer c.items.invariant.stands

pub returns-in-Ok-Token-clause-reads : goal.returns-in-Ok-Token-clause-reads
returns-in-Ok-Token-clause-reads c = items_token _ _ _ _ _ _ _ c.items.invariant _ _ c.in-Ok-Token.read c.outermost_call-before.result _
    (rw c.in-Ok-Token.field-0-is at c.in-Ok-Token.ensures.turns) c.outermost_call-before.ensures c.item_call-call.ensures

pub returns-in-Ok-Token-clause-less : goal.returns-in-Ok-Token-clause-less
returns-in-Ok-Token-clause-less c = items_token_less _ _ _ _ _ _ _ c.items.invariant _ _ c.in-Ok-Token.read
    (rw c.in-Ok-Token.field-0-is at c.in-Ok-Token.ensures.turns)

pub items-smaller-in-Ok : goal.items-smaller-in-Ok
items-smaller-in-Ok c = items_call_less _ _ _ _ _ _ _ c.items.invariant _ _ c.in-Ok-Call.call
    (rw c.in-Ok-Call.field-0-is at c.in-Ok-Call.ensures.turns) _ (rw (ap names_of c.in-Ok-Call.ensures.below ∙ c.items.invariant.stands.unhidden) at c.in-Ok.ensures.finishes)

pub items-preserved-in-Ok : goal.items-preserved-in-Ok
items-preserved-in-Ok c = rw c.in-Ok.ensures.below (items_call _ _ _ _ _ _ _ c.items.invariant _ _ c.in-Ok-Call.call
    (rw c.in-Ok-Call.field-0-is at c.in-Ok-Call.ensures.turns) _ (rw (ap names_of c.in-Ok-Call.ensures.below ∙ c.items.invariant.stands.unhidden) at c.in-Ok.ensures.finishes))

pub returns-in-Err-clause-reads : goal.returns-in-Err-clause-reads
returns-in-Err-clause-reads c =
    let finishes = subst (λ hidden. Finishes c.args.self.now.levels c.args.self.now.scope.numbering c.args.self.now.scope.definitions.now hidden c.in-Ok-Call.call c.step_list.new.processor.here
    (Err c.in-Err.halt) c.finish_call.new.processor.here) (ap names_of c.in-Ok-Call.ensures.below ∙ c.items.invariant.stands.unhidden) c.in-Err.ensures.finishes in
    rw c.in-Err.ensures.below (items_call_fault _ _ _ _ _ _ _ c.items.invariant _ _ c.in-Ok-Call.call
    (rw c.in-Ok-Call.field-0-is at c.in-Ok-Call.ensures.turns) c.finish_call.new.processor.here c.in-Err.halt c.found_in.result finishes c.found_in.ensures)

pub items-smaller : goal.items-smaller
items-smaller c = items_pause_less _ _ _ _ _ _ _ c.items.invariant _ _ (rw c.in-Err-Continue.field-0-is at c.in-Err-Continue.ensures.turns)

pub items-preserved : goal.items-preserved
items-preserved c = items_pause _ _ _ _ _ _ _ c.items.invariant _ _ (rw c.in-Err-Continue.field-0-is at c.in-Err-Continue.ensures.turns)

pub returns-in-Err-Finished-clause-reads : goal.returns-in-Err-Finished-clause-reads
returns-in-Err-Finished-clause-reads c = items_end _ _ _ _ _ _ _ c.items.invariant _ _ _
    (rw c.in-Err-Finished.field-0-is at c.in-Err-Finished.ensures.turns) c.outermost_call-call.ensures

pub returns-in-Err-Error-clause-reads : goal.returns-in-Err-Error-clause-reads
returns-in-Err-Error-clause-reads c = items_fault _ _ _ _ _ _ _ c.items.invariant _ _ c.in-Err-Error.fault c.halt_of.result c.found_in-in-Err-Error.result
    (rw c.in-Err-Error.field-0-is at c.in-Err-Error.ensures.turns) c.found_in-in-Err-Error.ensures (rw c.in-Err-Error.fault-is at c.halt_of.ensures)

-- after a call nothing is held
pub finish_call-requires : goal.finish_call-requires
finish_call-requires c = record {
  free = call_free _ _ _ _ _ c.in-Ok-Call.call refl (rw c.in-Ok-Call.field-0-is at c.in-Ok-Call.ensures.turns);
  known = line_call_known _ _ c.items.line.expander c.step_list.new.processor c.items.line.lexer c.step_list.new.list c.in-Ok-Call.call
      c.items.invariant.stands (rw c.in-Ok-Call.field-0-is at c.in-Ok-Call.ensures.turns) c.in-Ok-Call.ensures.below;
}
