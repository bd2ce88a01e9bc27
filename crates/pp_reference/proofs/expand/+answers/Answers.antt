use Rattle.std.proofs.Common.{rules, ◌≡◌, ◌-◌, List, [], refl, ◌∙◌, subst, arith}
use Rattle.std.specs.Prelude.{None, Ok, Err}
use Rattle.std.proofs.lemmas.Result.{IfOk-weaker}
use Rattle.pp_reference.specs.inner.Changes.{meaning_of}
use Rattle.pp_model.specs.Calls.{Site, misfit}
use Rattle.pp_model.specs.Emitting.{Collects, Each, done, failed, item, Alone, answers_at}
use Rattle.pp_model.specs.inner.Emitting.{read_before, list_before}
use Rattle.pp_model.specs.Reading.{Expander, Listed, argument_reading}
use Rattle.pp_reference.specs.inner.Seen.{seen}
use Rattle.pp_reference.specs.inner.SeenList.{list_state}
use Rattle.pp_reference.specs.declared.expander.Turn.TheVariants.{Item, Replaced, Called}
use Rattle.pp_model.proofs.calls.CollectLemmas.{after_items-before, after_lists-before, after_items-end, each_at-failed, each_at-more, each_at-end}
use Rattle.pp_model.specs.declared.read.Read.{Read}
use Rattle.pp_model.proofs.calls.LevelLemmas.{answers_each}
use Rattle.pp_reference.proofs.TurnLemmas.{turns_mean, answer_known, resolves_fault, resolves_next}
use Rattle.pp_reference.proofs.expand.+answers.Goals as goal

pub answer-returns-clause-answers : goal.answer-returns-clause-answers
answer-returns-clause-answers t c =
    let definition = c.args.call.now.opening.definition in
    let arguments = c.args.call.now.site.arguments in
    let site : Site = record { paren = c.args.call.now.site.paren; arguments = arguments; numbering = c.args.numbering; visible = meaning_of c.args.visible.now; open_around = c.args.hidden.now } in
    let fits : misfit definition.parameters arguments ≡ None = search rules in
    let same : c.deref.result.now ≡ arguments = search rules in
    IfOk-weaker c.expand_arguments.result _ _
    (λ out h. answers_each c.args.levels definition site out c.if-levels-eq0.false fits
    (subst (λ (lists : List (List Read)). Each (Alone (c.args.levels - 1)) c.args.numbering (meaning_of c.args.visible.now) c.args.hidden.now lists out) same h))
    c.expand_arguments.ensures.each

pub answer_alone-returns-clause-answers : goal.answer_alone-returns-clause-answers
answer_alone-returns-clause-answers t c =
    IfOk-weaker c.answer.result _ _ (λ answer h. answer_known argument_reading (answers_at c.args.levels) (seen list_state c.args.expander.now) c.args.call.now
    c.numbering-numbering.result (meaning_of c.visible-visible.result.now) c.deref.result.now answer c.numbering-numbering.ensures c.visible-visible.ensures
    (c.deref.ensures.value ∙ c.in_ok-around.ensures) h) c.answer.ensures.answers

pub emit_alone-returns-in-Item-clause-emits : goal.emit_alone-returns-in-Item-clause-emits
emit_alone-returns-in-Item-clause-emits t c =
    c.turns.invariant.goes_on c.in-Item.item (seen list_state c.turn.new.self)
    (turns_mean argument_reading (answers_at c.args.levels) (Item c.in-Item.item) (seen list_state c.turns.expander)
    (seen list_state c.turn.new.self) (rw c.in-Item.is at c.in_ok-item.ensures.turns))

pub emit_alone-turns-preserved-in-Replaced : goal.emit_alone-turns-preserved-in-Replaced
emit_alone-turns-preserved-in-Replaced t c = record {
  goes_on = λ item end h. c.turns.invariant.goes_on item end (turns_mean argument_reading (answers_at c.args.levels) Replaced
      (seen list_state c.turns.expander) (seen list_state c.turn.new.self) (rw c.in-Replaced.is at c.in_ok-item.ensures.turns) item end h);
  spent = omega arith;
}

pub emit_alone-returns-in-Some-clause-emits : goal.emit_alone-returns-in-Some-clause-emits
emit_alone-returns-in-Some-clause-emits t c =
    c.turns.invariant.goes_on c.in-Some.item (seen list_state c.resolve.new.self)
    (resolves_fault argument_reading (answers_at c.args.levels) (seen list_state c.turns.expander) (seen list_state c.turn.new.self)
    (seen list_state c.resolve.new.self) c.in-Called.call c.in-Ok.answer c.in-Some.item
    (turns_mean argument_reading (answers_at c.args.levels) (Called c.in-Called.call) (seen list_state c.turns.expander)
    (seen list_state c.turn.new.self) (rw c.in-Called.is at c.in_ok-item.ensures.turns))
    c.in-Ok.ensures.answers
    (rw c.in-Some.is at c.in_ok-item-in-Ok.ensures))

pub emit_alone-turns-preserved : goal.emit_alone-turns-preserved
emit_alone-turns-preserved t c = record {
  goes_on = λ item end h.
      c.turns.invariant.goes_on item end
      (resolves_next argument_reading (answers_at c.args.levels) (seen list_state c.turns.expander) (seen list_state c.turn.new.self)
      (seen list_state c.resolve.new.self) c.in-Called.call c.in-Ok.answer
      (turns_mean argument_reading (answers_at c.args.levels) (Called c.in-Called.call) (seen list_state c.turns.expander)
      (seen list_state c.turn.new.self) (rw c.in-Called.is at c.in_ok-item.ensures.turns))
      c.in-Ok.ensures.answers
      (rw c.in_default.is at c.in_ok-item-in-Ok.ensures) item end h);
  spent = omega arith;
}

pub collect-items-preserved : goal.collect-items-preserved
collect-items-preserved t c = record {
  goes_on = λ out h.
      rw (c.in_ok-push-in-Token.ensures.items, ← after_items-before c.items.items.items c.in-Token.read out)
      (c.items.invariant.goes_on (read_before c.in-Token.read out)
      (item c.in-Token.read out _ _ _ (rw c.in-Token.is at c.in_ok-taken.ensures.emits.emits) h refl));
  spent = omega arith;
}

pub collect-returns-in-Fault-clause-collects : goal.collect-returns-in-Fault-clause-collects
collect-returns-in-Fault-clause-collects t c =
    c.items.invariant.goes_on (Err c.in-Fault.fault) (failed c.in-Fault.fault _ _ _ (rw c.in-Fault.is at c.in_ok-taken.ensures.emits.emits) refl)

pub collect-returns-in-End-clause-collects : goal.collect-returns-in-End-clause-collects
collect-returns-in-End-clause-collects t c =
    rw (← after_items-end c.items.items.items)
    (c.items.invariant.goes_on (Ok []) (done _ _ _ (rw c.in-End.is at c.in_ok-taken.ensures.emits.emits) refl))

pub expand_argument-returns-clause-alone : goal.expand_argument-returns-clause-alone
expand_argument-returns-clause-alone t c =
    IfOk-weaker c.collect-expanded.result _ _ (λ out h. subst (λ (e : Expander Listed). Collects argument_reading
    (answers_at c.args.levels) e out) c.in_ok-expander.ensures h) c.collect-expanded.ensures.collects

pub expand_arguments-returns-in-Err-clause-each : goal.expand_arguments-returns-in-Err-clause-each
expand_arguments-returns-in-Err-clause-each t c =
    c.loop-argument.invariant.goes_on (Err c.in-Err.fault) (each_at-failed (Alone c.args.levels)
    c.args.numbering (meaning_of c.args.visible.now) c.args.hidden.now c.args.arguments.now c.loop-argument.argument-index c.argument-item.result
    c.deref.result.now c.in-Err.fault c.loop-argument-test.true c.argument-item.is (c.deref.ensures.value ∙ c.argument.view_is)
    (rw c.in-Err.is at c.in_ok-list.ensures.alone))

pub expand_arguments-loop-argument-preserved : goal.expand_arguments-loop-argument-preserved
expand_arguments-loop-argument-preserved t c = record {
  goes_on = λ out h.
      rw (c.in_ok-push-in-Ok.ensures.items, ← after_lists-before c.loop-argument.expanded.items c.in-Ok.list out)
      (c.loop-argument.invariant.goes_on (list_before c.in-Ok.list out)
      (each_at-more (Alone c.args.levels)
      c.args.numbering (meaning_of c.args.visible.now) c.args.hidden.now c.args.arguments.now c.loop-argument.argument-index c.argument-item.result
      c.deref.result.now c.in-Ok.list out c.loop-argument-test.true c.argument-item.is (c.deref.ensures.value ∙ c.argument.view_is)
      (rw c.in-Ok.is at c.in_ok-list.ensures.alone) h));
  spent = omega arith;
}

pub expand_arguments-returns-clause-each : goal.expand_arguments-returns-clause-each
expand_arguments-returns-clause-each t c =
    rw (← after_items-end c.loop-argument.expanded.items)
    (c.loop-argument.invariant.goes_on (Ok []) (each_at-end (Alone c.args.levels)
    c.args.numbering (meaning_of c.args.visible.now) c.args.hidden.now c.args.arguments.now c.loop-argument.argument-index c.loop-argument-test.false))
