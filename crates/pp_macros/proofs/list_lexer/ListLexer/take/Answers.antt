use Rattle.std.proofs.Common.{◌≡◌, ◌+◌, ◌-◌, ◌<◌, ◌∷◌, arith, drop, length, subst, sym}
use Rattle.std.proofs.lemmas.List.{length-drop, drop_more, drop-drop, drop-set-lt}
use Rattle.std.proofs.lemmas.List.Elements.{All-head, All-drop}
use Rattle.pp_model.specs.declared.read.Read.{Read}
use Rattle.pp_macros.specs.inner.Reader.{Listing}
use Rattle.pp_macros.specs.Held.{HoldsOrdinary}
use Rattle.pp_macros.proofs.list_lexer.ListLexer.take.Goals as goal

pub invariant_of-self : goal.invariant_of-self
invariant_of-self c =
    rw (
      drop-set-lt (c.self.inside.position + 1) c.self.inside.tokens.now c.self.inside.position c.take_out-read.new.place (omega arith),
      ← drop-drop 1 c.self.inside.position c.self.inside.tokens.now,
    )
    (All-drop (λ (read : Read). HoldsOrdinary read.token.value) 1 (drop c.self.inside.position c.self.inside.tokens.now) c.self.invariant)

pub returns-clause-holds : goal.returns-clause-holds
returns-clause-holds c =
    let within : 0 < length c.self.inside.tokens.now - c.self.inside.position =
    rw (← length-drop c.self.inside.position c.self.inside.tokens.now) (subst (λ (l : Listing). 0 < length l.tokens) (sym c.self.view_is) c.requires) in
    let here : drop c.self.inside.position c.self.inside.tokens.now ≡ c.take_out-read.result ∷ drop (c.self.inside.position + 1) c.self.inside.tokens.now
    = rw c.take_out-read.ensures.is (drop_more c.self.inside.tokens.now c.self.inside.position c.index-self-self.result (omega (arith, within))) in
    All-head (λ (read : Read). HoldsOrdinary read.token.value) c.take_out-read.result _ (rw here at c.self.invariant)
