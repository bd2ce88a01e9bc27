use Rattle.std.proofs.Common.{◌∙◌, ap, refl, arith, sym, inl, inr}
use Rattle.pp_lexer.specs.TokenValue.{is_ordinary}
use Rattle.pp_lexer.specs.declared.token.Token.{Token}
use Rattle.pp_rs.specs.TokenRefs.{token_of}
use Rattle.pp_rs.proofs.runs.PassedLemmas.{ahead_ordinary}
use Rattle.pp_rs.proofs.runs.GivingLemmas.{giving_passes, giving_refused, giving_takes, on_err, origin_is, token_unspent}
use Rattle.pp_rs.proofs.pp.preprocessor.Preprocessor.give_front.Goals as goal

pub tokens-init : goal.tokens-init
tokens-init g c = record { unspent = c.requires.unspent; left = omega arith; rules = refl; giving = λ start first p. p }

-- a token of an wants macro
pub tokens-preserved : goal.tokens-preserved
tokens-preserved g c =
    let before = c.tokens.invariant in
    let wants = sym c.is_full.ensures ∙ c.tokens-test.true in
    let passed = (c.in_ok-advance.ensures {u = tt}).passed in
    let gave = (c.in_ok-give_token.ensures {u = tt}).taken in
    let ahead = rw c.in-Some.is at c.front.ensures.ahead in
    let next = rw (← ahead.same, ← gave.refers) at (c.pass.ensures.gives ahead.read ahead.ahead) in
    let fresh = passed.spent ∙ before.unspent in
    record {
      unspent = token_unspent _ _ (token_of gave.reference) fresh next;
      left = omega (arith, next.less_left, passed.no_more_left, before.left);
      rules = next.rules ∙ passed.rules ∙ before.rules;
      giving = λ start first p.
          giving_takes _ _ start _ first _ (giving_passes _ _ start _ first _ (before.giving start first p) wants _ passed) fresh gave.reference _ _ next
          (gave.comes ∙ sym (origin_is c.in-Some.origin _ c.pass.ensures.text (c.pass.ensures.call ∙ sym (rw c.in-Some.is at c.front.ensures.call)))) gave.taken;
    }

pub give_token-requires-clause-ordinary : goal.give_token-requires-clause-ordinary
give_token-requires-clause-ordinary g c =
    let ahead = rw c.in-Some.is at c.front.ensures.ahead in
    ap (λ (t : Token). is_ordinary t.value) ahead.same ∙ ahead_ordinary _ ahead.read ahead.ahead

-- no more tokens
pub returns-else-branch-clause-giving : goal.returns-else-branch-clause-giving
returns-else-branch-clause-giving g c = λ start first p.
    giving_passes _ _ start _ first _ (c.tokens.invariant.giving start first p) (sym c.is_full.ensures ∙ c.tokens-test.true) _
    (c.in_ok-advance.ensures {u = tt}).passed

-- the next one isn't ordinary
pub returns-in_default-clause-giving : goal.returns-in_default-clause-giving
returns-in_default-clause-giving g c = λ start first p.
    giving_passes _ _ start _ first _ (c.tokens.invariant.giving start first p) (sym c.is_full.ensures ∙ c.tokens-test.true) _
    (c.in_ok-advance.ensures {u = tt}).passed

-- no memory to go on
pub returns-in_err-advance-clause-refused : goal.returns-in_err-advance-clause-refused
returns-in_err-advance-clause-refused g c = on_err c.from_residual.result (λ start first p.
    let before = c.tokens.invariant in
    let wants = sym c.is_full.ensures ∙ c.tokens-test.true in
    giving_refused _ _ _ start _ first _ (before.giving start first p) wants before.unspent (c.in_err-advance.ensures {u = tt}).some_left _ (inl refl))

-- no memory for a token
pub returns-in_err-give_token-clause-refused : goal.returns-in_err-give_token-clause-refused
returns-in_err-give_token-clause-refused g c = on_err c.from_residual-in_err-give_token.result (λ start first p.
    let before = c.tokens.invariant in
    let wants = sym c.is_full.ensures ∙ c.tokens-test.true in
    let passed = (c.in_ok-advance.ensures {u = tt}).passed in
    giving_refused _ _ _ start _ first _ (giving_passes _ _ start _ first _ (before.giving start first p) wants _ passed) wants (passed.spent ∙ before.unspent)
    (rw c.in-Some.is at c.front.ensures.some_left) _ (inr (c.in_err-give_token.ensures {u = tt}).refused))

-- no step is left for it
pub returns-in_err-pay-clause-refused : goal.returns-in_err-pay-clause-refused
returns-in_err-pay-clause-refused g c = on_err c.from_residual-in_err-pay.result (λ start first p.
    let before = c.tokens.invariant in
    let wants = sym c.is_full.ensures ∙ c.tokens-test.true in
    let passed = (c.in_ok-advance.ensures {u = tt}).passed in
    giving_refused _ _ _ start _ first _ (giving_passes _ _ start _ first _ (before.giving start first p) wants _ passed) wants (passed.spent ∙ before.unspent)
    (rw c.in-Some.is at c.front.ensures.some_left) _ (inl refl))

pub pass-requires : goal.pass-requires
pass-requires g c =
    let ahead = rw c.in-Some.is at c.front.ensures.ahead in
    (ahead.read, ahead.ahead, ahead.within)
