use Rattle.std.proofs.Common.{◌∙◌, ap, rules}
use Rattle.pp_lexer.specs.Cursor.{after}
use Rattle.pp_lexer.proofs.characters.ContinuationsLemmas.{steps_same, end_step, plain_step, backslash_step, gone_step, looked}
use Rattle.pp_lexer.proofs.lexer.skip_backslash_newline.take_joined.Goals as goal

pub returns-in_err-current : goal.returns-in_err-current
returns-in_err-current c =
    let step = steps_same _ _ _ _ _ _
    (end_step _ c.next_item.new.self _ _ c.in_err-current.was c.next_item.ensures.value c.next_item.ensures.state)
    c.continuations.invariant.rest c.continuations.invariant.total in
    record { value = c.from_residual.ensures ∙ step.value; state = step.state; room = search rules }

pub returns-then-current-ne92 : goal.returns-then-current-ne92
returns-then-current-ne92 c =
    let step =
    steps_same _ _ _ _ _ _ (plain_step _ c.next_item.new.self _ _ _ c.in_ok-current.ensures.value c.in_ok-current.ensures.state c.if-current-ne92.true)
    c.continuations.invariant.rest c.continuations.invariant.total in
    record { value = step.value; state = step.state; room = search rules }

pub returns-then-not-is_char : goal.returns-then-not-is_char
returns-then-not-is_char c =
    let step =
    steps_same _ _ _ _ _ _
    (backslash_step _ c.next_item.new.self _ _ _ c.in_ok-current.ensures.value c.in_ok-current.ensures.state
    (looked 10 _ _ _ _ _ c.duplicate-peek.ensures c.next_item-next.ensures.value c.is_char.ensures c.if-not-is_char.true))
    c.continuations.invariant.rest c.continuations.invariant.total in
    record { value = step.value; state = step.state; room = search rules }

pub continuations-preserved : goal.continuations-preserved
continuations-preserved c = record {
  rest =
      gone_step _ _ _ _ _ _ c.in_ok-current.ensures.value c.in_ok-current.ensures.state c.if-current-ne92.false
      (looked 10 _ _ _ _ _ c.duplicate-peek.ensures c.next_item-next.ensures.value c.is_char.ensures c.if-not-is_char.false)
      (c.next_item-next.ensures.state ∙ ap after c.duplicate-peek.ensures)
      ∙ c.continuations.invariant.rest;
  total = search rules;
  forward = search rules;
}
