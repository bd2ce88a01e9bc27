use Rattle.std.proofs.lemmas.List.Elements.{All-push}
use Rattle.pp_model.specs.declared.read.Read.{Read}
use Rattle.pp_macros.specs.Held.{HoldsOrdinary}
use Rattle.pp_macros.specs.inner.Ahead.{read_of}
use Rattle.pp_macros.specs.inner.Giving.{token}
use Rattle.pp_macros.proofs.macro_processor.MacroProcessor.give_one.Goals as goal

-- a token that is no punctuator
pub returns-in_ok-put_other-in-None-clause-gives : goal.returns-in_ok-put_other-in-None-clause-gives
returns-in_ok-put_other-in-None-clause-gives c =
    let put = c.in_ok-put_other-in-None.ensures in
    token (read_of c.in-Token.ahead) (rw put.passes c.in-Token.ensures.turns) (put.puts _ c.in-Token.ensures.ahead)

pub returns-in_ok-put_other-in-None-clause-holds : goal.returns-in_ok-put_other-in-None-clause-holds
returns-in_ok-put_other-in-None-clause-holds c =
    rw (c.in_ok-put_other-in-None.ensures.puts _ c.in-Token.ensures.ahead)
    (All-push (λ (read : Read). HoldsOrdinary read.token.value) _ _ c.requires.ordinary c.in-Token.ensures.holds)

-- a punctuator
pub returns-in_ok-push-in-Some-clause-gives : goal.returns-in_ok-push-in-Some-clause-gives
returns-in_ok-push-in-Some-clause-gives c =
    token (read_of c.in-Token.ahead) (rw c.pass_token.ensures c.in-Token.ensures.turns)
    (rw c.in-Some.ensures at c.in_ok-push-in-Some.ensures.items)

pub returns-in_ok-push-in-Some-clause-holds : goal.returns-in_ok-push-in-Some-clause-holds
returns-in_ok-push-in-Some-clause-holds c =
    rw c.in_ok-push-in-Some.ensures.items
    (All-push (λ (read : Read). HoldsOrdinary read.token.value) _ _ c.requires.ordinary
    (rw c.in-Some.ensures c.in-Token.ensures.holds))
