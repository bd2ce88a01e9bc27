use Rattle.std.proofs.Common.{◌≡◌, ◌∙◌, ap, sym, refl, arith, Option, Some, None}
use Rattle.std.specs.Prelude.{IsSome}
use Rattle.pp_lexer.specs.TokenValue.{is_ordinary}
use Rattle.pp_lexer.specs.declared.token.Token.{Token}
use Rattle.pp_model.specs.declared.read.Read.{Read}
use Rattle.pp_macros.specs.inner.Ahead.{given_next}
use Rattle.pp_macros.specs.inner.Frames.{outermost_frame_call}
use Rattle.pp_rs.proofs.runs.PassedLemmas.{ahead_passes, front_ahead, front_given, front_own}
use Rattle.pp_rs.proofs.pp.preprocessor.Preprocessor.front.Goals as goal

none_there : (o : Option Read) → None ≡ o → IsSome o → ⊥
none_there (Some read) first some = cc
none_there None first some = cc

pub unreachable-requires : goal.unreachable-requires
unreachable-requires c =
    none_there _ (rw c.in_default.is at c.ahead.ensures.ahead ∙ ap (λ p. given_next p.expander.frames) c.self.view_is) (front_given c.args.self.now c.requires)

pub returns-clause-ahead : goal.returns-clause-ahead
returns-clause-ahead c =
    let own = front_own c.args.self.now _ c.requires
    (rw c.in-Some.is at c.ahead.ensures.ahead ∙ ap (λ p. given_next p.expander.frames) c.self.view_is) in
    record {
      read = c.requires.read;
      ahead = front_ahead c.args.self.now c.requires
          (ap (λ (t : Token). is_ordinary t.value) (sym own.token) ∙ sym c.is_ordinary.ensures ∙ c.if-not-is_ordinary.false);
      same = own.token;
      within = own.text;
    }

pub returns-clause-call : goal.returns-clause-call
returns-clause-call c =
    c.outermost_call.ensures ∙ ap (λ p. outermost_frame_call p.expander.frames) c.self.view_is

pub returns-clause-some_left : goal.returns-clause-some_left
returns-clause-some_left c =
    let own = front_own c.args.self.now _ c.requires
    (rw c.in-Some.is at c.ahead.ensures.ahead ∙ ap (λ p. given_next p.expander.frames) c.self.view_is) in
    let ahead = front_ahead c.args.self.now c.requires
    (ap (λ (t : Token). is_ordinary t.value) (sym own.token) ∙ sym c.is_ordinary.ensures ∙ c.if-not-is_ordinary.false) in
    let fresh = ap (λ p. p.spent) c.self.view_is ∙ c.requires.fresh in
    let next = ahead_passes c.args.self.now c.self.inside.expander.here c.self.inside.source (ap (λ p. p.expander) (sym c.self.view_is))
    (ap (λ p. p.source) (sym c.self.view_is)) (c.self.invariant.0 fresh) c.requires.read ahead c.self.inside.spent c.self.inside.place
    c.requires.read.text c.self.inside.name_call fresh
    (ap (λ p. p.place) c.self.view_is) refl (ap (λ p. p.rules) c.self.view_is) in
    omega (arith, next.less_left)
