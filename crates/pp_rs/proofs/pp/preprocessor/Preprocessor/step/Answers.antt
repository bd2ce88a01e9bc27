use Rattle.std.proofs.Common.{◌≡◌, ◌∙◌, refl, ap, sym, false}
use Rattle.pp_macros.specs.Item.{is_out_of_memory}
use Rattle.pp_macros.specs.inner.Frames.{names_of}
use Rattle.pp_macros.proofs.open_frames.KnownLemmas.{alone_known}
use Rattle.pp_macros.specs.inner.Expander.{kept_call}
use Rattle.pp_rs.specs.Kept.{is_spent}
use Rattle.pp_rs.proofs.runs.NextLemmas.{reached_first, reached_more, less_more, token_fits, end_fits, fault_fits, next_token, next_end, next_error}
use Rattle.pp_rs.proofs.runs.PassedLemmas.{passed_pauses}
use Rattle.pp_rs.proofs.pp.preprocessor.Preprocessor.step.Goals as goal

pub turn_source-requires-clause-known : goal.turn_source-requires-clause-known
unfolding is_spent
turn_source-requires-clause-known c =
    let sound = (c.self.invariant.0 (ap (λ p. p.spent) c.self.view_is ∙ c.requires)).0.sound in
    alone_known _ c.self.inside.expander sound.numbers (ap names_of c.self.invariant.1)

pub invariant_of-self : goal.invariant_of-self
invariant_of-self c = (
  λ e.
      let first = reached_first _ _ _ _ (ap (λ p. p.expander) c.self.view_is) (ap (λ p. p.source) c.self.view_is) (c.self.invariant.0 e) in
      token_fits _ _ _ _ _ _ first c.in-Ok.read c.in-Ok.ensures.turns,
  c.turn_source.ensures.below ∙ c.self.invariant.1,
  λ e. cc,
)

pub invariant_of-self-in-Err-Error : goal.invariant_of-self-in-Err-Error
unfolding is_spent
invariant_of-self-in-Err-Error c =
    let fresh = ap (λ p. p.spent) c.self.view_is ∙ c.requires in
    let first = reached_first _ _ _ _ (ap (λ p. p.expander) c.self.view_is) (ap (λ p. p.source) c.self.view_is) (c.self.invariant.0 fresh) in (
      λ e. fault_fits _ _ _ _ _ _ first c.in-Err-Error.error c.refused_item.new.source c.refused_item.ensures.source
          (rw c.in-Err-Error.field-0-is at c.in-Err-Error.ensures.turns) (sym c.refused_item.ensures.spent ∙ e),
      c.turn_source.ensures.below ∙ c.self.invariant.1,
      λ e. cc,
    )

pub invariant_of-self-in-Err-Finished : goal.invariant_of-self-in-Err-Finished
invariant_of-self-in-Err-Finished c = (
  λ e.
      let first = reached_first _ _ _ _ (ap (λ p. p.expander) c.self.view_is) (ap (λ p. p.source) c.self.view_is) (c.self.invariant.0 e) in
      end_fits _ _ _ _ _ _ first (rw c.in-Err-Finished.field-0-is at c.in-Err-Finished.ensures.turns),
  c.turn_source.ensures.below ∙ c.self.invariant.1,
  λ e. cc,
)

pub invariant_of-self-in-Err-Continue : goal.invariant_of-self-in-Err-Continue
invariant_of-self-in-Err-Continue c = (
  λ e.
      let first = reached_first _ _ _ _ (ap (λ p. p.expander) c.self.view_is) (ap (λ p. p.source) c.self.view_is) (c.self.invariant.0 e) in
      let on = reached_more _ _ _ _ _ _ first (rw c.in-Err-Continue.field-0-is at c.in-Err-Continue.ensures.turns) in
      (on.fit, on.reported),
  c.turn_source.ensures.below ∙ c.self.invariant.1,
  λ e. cc,
)

pub returns-in-Ok : goal.returns-in-Ok
unfolding is_spent
returns-in-Ok c =
    let fresh : c.args.self.now.spent ≡ false = c.requires in
    let now_fresh = ap (λ p. p.spent) c.self.view_is ∙ fresh in
    let first = reached_first _ _ _ _ (ap (λ p. p.expander) c.self.view_is) (ap (λ p. p.source) c.self.view_is) (c.self.invariant.0 now_fresh) in
    next_token _ _ _ _ _ _ first c.args.self.now fresh refl refl (ap (λ p. p.rules) c.self.view_is) c.in-Ok.read c.self.inside.spent c.self.inside.place c.set_text.new.self
    c.outermost_call-self-inside.result now_fresh (ap (λ p. p.place) c.self.view_is) c.set_text.ensures
    (ap (λ line. kept_call c.turn_source.new.expander.here.held line c.turn_source.new.expander.here.frames) c.outermost_call-self-inside.ensures)
    c.in-Ok.ensures.turns c.in-Ok.ensures.holds

pub returns-in-Err-Error : goal.returns-in-Err-Error
unfolding is_spent
returns-in-Err-Error c =
    let fresh : c.args.self.now.spent ≡ false = c.requires in
    let now_fresh = ap (λ p. p.spent) c.self.view_is ∙ fresh in
    let first = reached_first _ _ _ _ (ap (λ p. p.expander) c.self.view_is) (ap (λ p. p.source) c.self.view_is) (c.self.invariant.0 now_fresh) in
    let error = c.in-Err-Error.error in
    rw (c.refused_item.ensures.item, c.refused_item.ensures.spent)
    (next_error _ _ _ _ _ _ first c.args.self.now fresh refl refl (ap (λ p. p.rules) c.self.view_is) error c.refused_item.new.source c.refused_item.new.place
    c.refused_item.new.last c.outermost_call-self-inside.result c.refused_item.ensures.source (is_out_of_memory error.0) refl
    (rw c.in-Err-Error.field-0-is at c.in-Err-Error.ensures.turns) c.refused_item.ensures.place (rw c.outermost_call.ensures at c.refused_item.ensures.last))

pub returns-in-Err-Finished : goal.returns-in-Err-Finished
unfolding is_spent
returns-in-Err-Finished c =
    let fresh : c.args.self.now.spent ≡ false = c.requires in
    let now_fresh = ap (λ p. p.spent) c.self.view_is ∙ fresh in
    let first = reached_first _ _ _ _ (ap (λ p. p.expander) c.self.view_is) (ap (λ p. p.source) c.self.view_is) (c.self.invariant.0 now_fresh) in
    next_end _ _ _ _ _ _ first c.args.self.now fresh refl refl (ap (λ p. p.rules) c.self.view_is) c.self.inside.spent c.self.inside.place c.set_end.new.self c.outermost_call-self-inside.result c.self.inside.last.text now_fresh
    (ap (λ p. p.place) c.self.view_is) c.set_end.ensures (rw c.in-Err-Finished.field-0-is at c.in-Err-Finished.ensures.turns)

pub returns-in-Err-Continue : goal.returns-in-Err-Continue
unfolding is_spent
returns-in-Err-Continue c =
    let fresh : c.args.self.now.spent ≡ false = c.requires in
    let now_fresh = ap (λ p. p.spent) c.self.view_is ∙ fresh in
    let first = reached_first _ _ _ _ (ap (λ p. p.expander) c.self.view_is) (ap (λ p. p.source) c.self.view_is) (c.self.invariant.0 now_fresh) in
    let turns = rw c.in-Err-Continue.field-0-is at c.in-Err-Continue.ensures.turns in
    record {
      passed = passed_pauses c.args.self.now _ _ _ _ _ _ _ (reached_more _ _ _ _ _ _ first turns) fresh now_fresh (ap (λ p. p.place) c.self.view_is) (ap (λ p. p.rules) c.self.view_is);
      less_left = less_more _ _ _ _ _ _ first c.args.self.now fresh refl refl (ap (λ p. p.rules) c.self.view_is) _ _ _ _ now_fresh turns;
    }
