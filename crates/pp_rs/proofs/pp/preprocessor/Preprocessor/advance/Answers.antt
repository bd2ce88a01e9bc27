use Rattle.std.proofs.Common.{refl, ◌≡◌, ◌∙◌, ap, sym, true, false, arith}
use Rattle.pp_rs.specs.Kept.{is_spent, rules_of}
use Rattle.pp_macros.proofs.open_frames.KnownLemmas.{alone_known}
use Rattle.pp_macros.specs.inner.Frames.{names_of}
use Rattle.pp_rs.proofs.runs.NextLemmas.{reached_first, next_refused}
use Rattle.pp_rs.proofs.runs.PausesLemmas.{reached_on}
use Rattle.pp_rs.proofs.runs.PassedLemmas.{front_found, passed_pauses}
use Rattle.pp_rs.proofs.pp.preprocessor.Preprocessor.advance.Goals as goal

pub advance-requires : goal.advance-requires
unfolding is_spent
advance-requires c =
    let now_fresh : c.self.inside.spent ≡ false = ap (λ p. p.spent) c.self.view_is ∙ c.requires in
    let sound = (c.self.invariant.0 now_fresh).0.sound in
    record { sound = sound; waits = c.self.invariant.1; known = alone_known _ c.self.inside.expander sound.numbers (ap names_of c.self.invariant.1) }

pub invariant_of-self : goal.invariant_of-self
unfolding is_spent
invariant_of-self c = (
  λ e.
      let first = reached_first _ _ _ _ (ap (λ p. p.expander) c.self.view_is) (ap (λ p. p.source) c.self.view_is) (c.self.invariant.0 (ap (λ p. p.spent) c.self.view_is ∙ c.requires)) in
      let r = (reached_on _ _ _ _ first _ (c.in-Ok.ensures {u = tt}).advances.pauses).reached in
      (r.fit, r.reported),
  c.advance.ensures.below ∙ c.self.invariant.1,
  λ e. cc,
)

pub returns-in-Ok : goal.returns-in-Ok
unfolding is_spent rules_of
returns-in-Ok c =
    let first = reached_first _ _ _ _ (ap (λ p. p.expander) c.self.view_is) (ap (λ p. p.source) c.self.view_is) (c.self.invariant.0 (ap (λ p. p.spent) c.self.view_is ∙ c.requires)) in
    let advanced = (c.in-Ok.ensures {u = tt}).advances in
    let r = (reached_on _ _ _ _ first _ advanced.pauses).reached in
    let fresh : c.args.self.now.spent ≡ false = c.requires in
    let now_fresh = ap (λ p. p.spent) c.self.view_is ∙ c.requires in
    record {
      passed = passed_pauses c.args.self.now _ _ _ _ _ _ _ r fresh now_fresh (ap (λ p. p.place) c.self.view_is) (ap (λ p. p.rules) c.self.view_is);
      front = λ e. front_found _ c.in-Ok.found now_fresh advanced.gives (sym c.is_some.ensures ∙ e);
      some_left = tt;
      rules = ap (λ p. p.rules) c.self.view_is;
    }

pub returns-in-Err-clause-some_left : goal.returns-in-Err-clause-some_left
unfolding is_spent
returns-in-Err-clause-some_left c =
    let first = reached_first _ _ _ _ (ap (λ p. p.expander) c.self.view_is) (ap (λ p. p.source) c.self.view_is) (c.self.invariant.0 (ap (λ p. p.spent) c.self.view_is ∙ c.requires)) in
    let refused = c.in-Err.ensures.refused in
    let on = reached_on _ _ _ _ first _ refused.pauses in
    let fresh : c.args.self.now.spent ≡ false = c.requires in
    let next = next_refused _ _ c.advance.new.self.here _ _ c.self.inside.source on.reached c.args.self.now fresh refl refl (ap (λ p. p.rules) c.self.view_is)
    refused.some (record c.args.self.now { spent = true }) refl refl in
    omega (arith, next.less_left)

pub returns-in-Err-clause-rules : goal.returns-in-Err-clause-rules
unfolding rules_of
returns-in-Err-clause-rules c = ap (λ p. p.rules) c.self.view_is
