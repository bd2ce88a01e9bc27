use Rattle.std.proofs.Common.{◌∙◌, ap, sym, Err}
use Rattle.std.proofs.lemmas.Result.{err_from_is_err_and}
use Rattle.pp_model.specs.Emitting.{expansion_limit}
use Rattle.pp_macros.specs.inner.Nesting.{MacroProcessor}
use Rattle.pp_rs.proofs.runs.IdleLemmas.{idle_exit, idle_token, idle_fault, idle_word}
use Rattle.pp_macros.specs.inner.Expander.{Expander}
use Rattle.pp_macros.proofs.open_frames.KnownLemmas.{idle_known}
use Rattle.pp_macros.proofs.taking.ExpanderLemmas.{is_idle-idle}
use Rattle.pp_rs.proofs.pp.source_turn.turn_source.Goals as goal
use Rattle.pp_rs.proofs.pp.source_turn.turn_source.Goals.{then-is_idle+in_ok-token+else-gives_itself+in_ok-hold_word, else-is_idle}

pub returns-in_err-token-clause-turns : goal.returns-in_err-token-clause-turns
returns-in_err-token-clause-turns c =
    let e = err_from_is_err_and c.from_residual.result c.from_residual.ensures.1 in
    let idle = is_idle-idle _ (sym c.is_idle.ensures ∙ c.if-is_idle.true) in
    idle_exit expansion_limit c.args.source.now c.step.new.self c.args.expander.now.here c.in_err-token.field-0.0 _ idle (c.in_err-token.ensures {u = tt}).reads (e.1 ∙ ap Err e.2)

pub returns-then-gives_itself-clause-turns : goal.returns-then-gives_itself-clause-turns
returns-then-gives_itself-clause-turns c =
    rw (c.of_text.ensures, c.text-text.ensures) (
    let idle = is_idle-idle _ (sym c.is_idle.ensures ∙ c.if-is_idle.true) in
    idle_token expansion_limit c.args.source.now c.step.new.self c.args.expander.now.here c.in_ok-token.token idle
    (c.in_ok-token.ensures {u = tt}).reads (rw c.definitions.ensures at (sym c.gives_itself.ensures ∙ c.if-gives_itself.true)))

pub returns-in_err-hold_word-clause-turns : goal.returns-in_err-hold_word-clause-turns
returns-in_err-hold_word-clause-turns c =
    let e = err_from_is_err_and c.from_residual-in_err-hold_word.result c.from_residual-in_err-hold_word.ensures.1 in
    let idle = is_idle-idle _ (sym c.is_idle.ensures ∙ c.if-is_idle.true) in
    idle_fault expansion_limit c.args.source.now c.step.new.self c.args.expander.now.here c.hold_word.new.expander.here c.in_ok-token.token
    c.in_err-hold_word.field-0.0 _ idle (c.in_ok-token.ensures {u = tt}).reads
    (rw c.text-text.ensures at c.in_err-hold_word.ensures.holds) (e.1 ∙ ap Err e.2)

pub returns-clause-turns : goal.returns-clause-turns
returns-clause-turns c = elim c.if-is_idle.branch [
  | then-is_idle+in_ok-token+else-gives_itself+in_ok-hold_word w ↦
      let idle = is_idle-idle _ (sym c.is_idle.ensures ∙ w.if-is_idle.true) in
      idle_word expansion_limit c.args.source.now w.step.new.self c.args.expander.now.here w.hold_word.new.expander.here c.turn_expander.new.expander.here
      c.turn_expander.new.source w.in_ok-token.token c.turn_expander.result idle
      (w.in_ok-token.ensures {u = tt}).reads (rw w.text-text.ensures at w.in_ok-hold_word.ensures.holds)
      (rw (w.expander-is, w.source-is) at c.turn_expander.ensures.turns)
  | else-is_idle w ↦ rw (w.expander-is, w.source-is) at c.turn_expander.ensures.turns
]

-- nothing is around
pub turn_expander-requires : goal.turn_expander-requires
turn_expander-requires c = elim c.if-is_idle.branch [
  | then-is_idle+in_ok-token+else-gives_itself+in_ok-hold_word w ↦
      let idle = is_idle-idle _ (sym c.is_idle.ensures ∙ w.if-is_idle.true) in
      let alone = w.hold_word.ensures.below ∙ c.requires.alone in
      rw (w.expander-is, w.source-is) (record {
        alone = alone;
        known = idle_known _ w.hold_word.new.expander (ap (λ (m : Expander). m.frames) w.in_ok-hold_word.ensures.holds.holds ∙ ap (λ (m : Expander). m.frames) idle) alone;
      })
  | else-is_idle w ↦ rw (w.expander-is, w.source-is) c.requires
]

pub returns-clause-below : goal.returns-clause-below
returns-clause-below c = elim c.if-is_idle.branch [
  | then-is_idle+in_ok-token+else-gives_itself+in_ok-hold_word w ↦
      c.turn_expander.ensures.below ∙ ap (λ (m : MacroProcessor). m.below) w.expander-is ∙ w.hold_word.ensures.below
  | else-is_idle w ↦ c.turn_expander.ensures.below ∙ ap (λ (m : MacroProcessor). m.below) w.expander-is
]
