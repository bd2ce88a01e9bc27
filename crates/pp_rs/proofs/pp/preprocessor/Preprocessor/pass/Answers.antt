use Rattle.std.proofs.Common.{◌∙◌, ap, sym}
use Rattle.pp_macros.specs.inner.Ahead.{given_next}
use Rattle.pp_macros.specs.inner.Nesting.{MacroProcessor}
use Rattle.pp_rs.specs.Kept.{LastItem}
use Rattle.pp_rs.proofs.runs.CallPlaceLemmas.{ahead_call, text_kept}
use Rattle.pp_rs.proofs.runs.PassedLemmas.{ahead_given, ahead_passes, fresh_ahead, pass_fits, same_text}
use Rattle.pp_rs.proofs.pp.preprocessor.Preprocessor.pass.Goals as goal

pub pass_token-requires : goal.pass_token-requires
pass_token-requires c =
    rw (← ap (λ p. given_next p.expander.frames) c.self.view_is) at (ahead_given c.args.self.now c.requires.0 c.requires.1)

pub invariant_of-self : goal.invariant_of-self
invariant_of-self c = (
  λ e.
      rw c.pass_token.ensures
      (pass_fits c.args.self.now c.self.inside.expander.here c.self.inside.source (ap (λ p. p.expander) (sym c.self.view_is))
      (ap (λ p. p.source) (sym c.self.view_is)) (c.self.invariant.0 e) c.requires.0 c.requires.1),
  ap (λ (m : MacroProcessor). m.below) c.pass_token.ensures ∙ c.self.invariant.1,
  λ e. cc,
)

pub returns-clause-gives : goal.returns-clause-gives
returns-clause-gives c = λ read ahead.
    let fresh = ap (λ p. p.spent) c.self.view_is ∙ fresh_ahead c.args.self.now read ahead in
    rw (c.pass_token.ensures, c.set_text.ensures)
    (ahead_passes c.args.self.now c.self.inside.expander.here c.self.inside.source (ap (λ p. p.expander) (sym c.self.view_is))
    (ap (λ p. p.source) (sym c.self.view_is)) (c.self.invariant.0 fresh) read ahead c.self.inside.spent c.self.inside.place c.args.text c.self.inside.name_call fresh
    (ap (λ p. p.place) c.self.view_is) (c.requires.2 ∙ same_text c.args.self.now c.requires.0 read c.requires.1 ahead) (ap (λ p. p.rules) c.self.view_is))

pub returns-clause-call : goal.returns-clause-call
returns-clause-call c =
    rw (c.pass_token.ensures, c.set_text.ensures)
    (ahead_call c.args.self.now c.requires.0 c.requires.1 c.self.inside.expander.here (ap (λ p. p.expander) (sym c.self.view_is)) _ _ _ _ _ _)

pub returns-clause-text : goal.returns-clause-text
returns-clause-text c = text_kept _ ∙ ap (λ (o : LastItem). o.text) c.set_text.ensures
