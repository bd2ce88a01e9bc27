use Rattle.std.proofs.Common.{◌≡◌, ◌∙◌, ap, ◌&&◌, ◌==◌, false, refl, rules}
use Rattle.std.proofs.lemmas.Bool.{ne_eqb}
use Rattle.pp_lexer.proofs.characters.CommentsLemmas.{past_block_after, block_step}
use Rattle.pp_lexer.proofs.lexer.replace_comments.skip_block.Goals as goal
use Rattle.pp_lexer.proofs.lexer.replace_comments.skip_block.Goals.{else-was_star-via-then-was_star+else-next-eq47, else-was_star-via-else-was_star, then-not-was_star, else-not-was_star}

pub block-preserved : goal.block-preserved
block-preserved c =
    let goes_on : (c.block.was_star && (c.in-Some.next == 47)) ≡ false =
    elim c.else-was_star.branch [
      | else-was_star-via-then-was_star+else-next-eq47 w ↦ rw
          (w.if-was_star.true, ne_eqb c.in-Some.next 47 w.if-next-eq47.false) refl
      | else-was_star-via-else-was_star w ↦ rw w.if-was_star.false refl
    ] in
    let before : past_block_after c.block.was_star c.if-not-was_star.inner ≡ past_block_after c.block.was_star c.block.inner =
    elim c.if-not-was_star.branch [
      | then-not-was_star w ↦ rw (w.if-not-was_star.true, w.inner-is) w.skip_starless.ensures.state
      | else-not-was_star w ↦ ap (past_block_after c.block.was_star) w.inner-is
    ] in
    record {
      state = block_step c.block.was_star _ _ _ _ _ _ c.in-Some.ensures.value c.in-Some.ensures.state goes_on ∙ before ∙ c.block.invariant.state;
      forward = search rules;
    }
