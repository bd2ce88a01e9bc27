use Rattle.std.proofs.Common.{◌∙◌, ap, rules}
use Rattle.pp_lexer.specs.Cursor.{after}
use Rattle.pp_lexer.proofs.characters.ContinuationsLemmas.{looked}
use Rattle.pp_lexer.proofs.characters.CommentsLemmas.{uncommented_end, no_slash_step, lone_slash_step, line_comment_step, block_comment_step}
use Rattle.pp_lexer.proofs.lexer.replace_comments.next_uncommented.Goals as goal

pub returns-in_err-current : goal.returns-in_err-current
returns-in_err-current c =
    let step = uncommented_end _ c.next_item.new.self _ _ c.in_err-current.was c.next_item.ensures.value c.next_item.ensures.state in
    record { value = c.from_residual.ensures ∙ step.value; state = step.state; room = search rules }

pub returns-then-current-ne47 : goal.returns-then-current-ne47
returns-then-current-ne47 c =
    let step = no_slash_step _ c.next_item.new.self _ _ _ c.in_ok-current.ensures.value c.in_ok-current.ensures.state c.if-current-ne47.true in
    record { value = step.value; state = step.state; room = search rules }

pub returns-then-is_char : goal.returns-then-is_char
returns-then-is_char c =
    let step =
    line_comment_step _ _ _ _ c.next_item-next.new.self c.skip_line.new.inner c.if-current-ne47.false
    (c.next_item-next.ensures.state ∙ ap after c.duplicate-peek.ensures) _ c.in_ok-current.ensures.value c.in_ok-current.ensures.state
    (looked 47 _ _ _ _ _ c.duplicate-peek.ensures c.next_item-next.ensures.value c.is_char.ensures c.if-is_char.true) c.skip_line.ensures.state in
    record { value = step.value; state = step.state; room = search rules }

pub returns-then-is_char-2 : goal.returns-then-is_char-2
returns-then-is_char-2 c =
    let step =
    block_comment_step _ _ _ _ c.next_item-next.new.self c.skip_block.new.inner c.if-current-ne47.false
    (c.next_item-next.ensures.state ∙ ap after c.duplicate-peek.ensures) _ c.in_ok-current.ensures.value c.in_ok-current.ensures.state
    (looked 42 _ _ _ _ _ c.duplicate-peek.ensures c.next_item-next.ensures.value c.is_char-2.ensures c.if-is_char-2.true) c.skip_block.ensures.state in
    record { value = step.value; state = step.state; room = search rules }

pub returns : goal.returns
returns c =
    let step =
    lone_slash_step _ c.next_item.new.self _ _ _ c.in_ok-current.ensures.value c.in_ok-current.ensures.state
    (looked 47 _ _ _ _ _ c.duplicate-peek.ensures c.next_item-next.ensures.value c.is_char.ensures c.if-is_char.false)
    (looked 42 _ _ _ _ _ c.duplicate-peek.ensures c.next_item-next.ensures.value c.is_char-2.ensures c.if-is_char-2.false) in
    record { value = step.value; state = step.state; room = search rules }
