use Rattle.std.proofs.Common.{◌≡◌, ◌∙◌, None, refl, ap, sym, false}
use Rattle.pp_macros.specs.inner.Expander.{Expander}
use Rattle.pp_macros.specs.inner.Frames.{names_of, outermost_frame_call}
use Rattle.pp_macros.proofs.open_frames.KnownLemmas.{alone_known}
use Rattle.pp_rs.specs.Kept.{is_spent}
use Rattle.pp_rs.proofs.runs.CallPlaceLemmas.{free_call}
use Rattle.pp_rs.proofs.runs.NextLemmas.{reached_first, token_fits, next_token, next_refused}
use Rattle.pp_rs.proofs.runs.PausesLemmas.{reached_on, given_over}
use Rattle.pp_rs.proofs.runs.PassedLemmas.{passed_pauses}
use Rattle.pp_rs.proofs.pp.preprocessor.Preprocessor.next_given.Goals as goal

pub give_next-requires : goal.give_next-requires
unfolding is_spent
give_next-requires c =
    let fresh : c.args.self.now.spent ≡ false = c.requires in
    let now_fresh : c.self.inside.spent ≡ false = ap (λ p. p.spent) c.self.view_is ∙ fresh in
    let sound = (c.self.invariant.0 now_fresh).0.sound in
    record { sound = sound; waits = c.self.invariant.1; known = alone_known _ c.self.inside.expander sound.numbers (ap names_of c.self.invariant.1) }

pub invariant_of-self : goal.invariant_of-self
invariant_of-self c = (
  λ e.
      let first = reached_first _ _ _ _ (ap (λ p. p.expander) c.self.view_is) (ap (λ p. p.source) c.self.view_is) (c.self.invariant.0 e) in
      let given = rw c.in-Ok-Some.field-0-is at (c.in-Ok-Some.ensures {u = tt}).gives in
      let on = reached_on _ _ _ _ first _ given.pauses in
      token_fits _ _ _ _ _ _ on.reached c.in-Ok-Some.read (given_over _ _ _ _ _ given.gives given.passes),
  c.give_next.ensures.below ∙ c.self.invariant.1,
  λ e. cc,
)

pub invariant_of-self-in-Ok-None : goal.invariant_of-self-in-Ok-None
invariant_of-self-in-Ok-None c = (
  λ e.
      let first = reached_first _ _ _ _ (ap (λ p. p.expander) c.self.view_is) (ap (λ p. p.source) c.self.view_is) (c.self.invariant.0 e) in
      let r = (reached_on _ _ _ _ first _ (rw c.in-Ok-None.field-0-is at (c.in-Ok-None.ensures {u = tt}).gives)).reached in
      (r.fit, r.reported),
  c.give_next.ensures.below ∙ c.self.invariant.1,
  λ e. cc,
)

pub returns-in-Ok-Some : goal.returns-in-Ok-Some
unfolding is_spent
returns-in-Ok-Some c =
    let fresh : c.args.self.now.spent ≡ false = c.requires in
    let now_fresh : c.self.inside.spent ≡ false = ap (λ p. p.spent) c.self.view_is ∙ fresh in
    let first = reached_first _ _ _ _ (ap (λ p. p.expander) c.self.view_is) (ap (λ p. p.source) c.self.view_is) (c.self.invariant.0 now_fresh) in
    let given = rw c.in-Ok-Some.field-0-is at (c.in-Ok-Some.ensures {u = tt}).gives in
    let on = reached_on _ _ _ _ first _ given.pauses in
    let held = c.give_next.new.self.here.held in
    let frames = c.give_next.new.self.here.frames in
    let free : held ≡ None = ap (λ (m : Expander). m.held) given.passes ∙ given.gives.free in
    next_token _ _ _ _ _ _ on.reached c.args.self.now fresh refl refl (ap (λ p. p.rules) c.self.view_is) c.in-Ok-Some.read c.self.inside.spent
    c.self.inside.place c.set_text.new.self c.self.inside.name_call now_fresh (ap (λ p. p.place) c.self.view_is) c.set_text.ensures
    (free_call held c.self.inside.name_call frames free ∙ sym (free_call held (outermost_frame_call given.between.frames) frames free))
    (given_over _ _ _ _ _ given.gives given.passes) given.gives.holds

pub returns-in-Ok-None : goal.returns-in-Ok-None
unfolding is_spent
returns-in-Ok-None c =
    let fresh : c.args.self.now.spent ≡ false = c.requires in
    let now_fresh : c.self.inside.spent ≡ false = ap (λ p. p.spent) c.self.view_is ∙ fresh in
    let first = reached_first _ _ _ _ (ap (λ p. p.expander) c.self.view_is) (ap (λ p. p.source) c.self.view_is) (c.self.invariant.0 now_fresh) in
    let r = (reached_on _ _ _ _ first _ (rw c.in-Ok-None.field-0-is at (c.in-Ok-None.ensures {u = tt}).gives)).reached in
    passed_pauses c.args.self.now _ _ _ _ _ _ _ r fresh now_fresh (ap (λ p. p.place) c.self.view_is) (ap (λ p. p.rules) c.self.view_is)

pub returns-in-Err : goal.returns-in-Err
unfolding is_spent
returns-in-Err c =
    let fresh : c.args.self.now.spent ≡ false = c.requires in
    let now_fresh : c.self.inside.spent ≡ false = ap (λ p. p.spent) c.self.view_is ∙ fresh in
    let first = reached_first _ _ _ _ (ap (λ p. p.expander) c.self.view_is) (ap (λ p. p.source) c.self.view_is) (c.self.invariant.0 now_fresh) in
    let refused = (c.in-Err.ensures {u = tt}).refused in
    let on = reached_on _ _ _ _ first _ refused.pauses in
    rw c.out_of_memory.ensures
    (next_refused _ _ c.give_next.new.self.here _ _ c.self.inside.source on.reached c.args.self.now fresh refl refl (ap (λ p. p.rules) c.self.view_is) refused.some _ refl
    (ap (λ p. p.rules) c.self.view_is))
