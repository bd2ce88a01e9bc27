use Rattle.std.proofs.Common.{◌∙◌, arith, refl, sym, inr}
use Rattle.pp_rs.proofs.runs.GivingLemmas.{giving_ends, giving_full, giving_passes, giving_refused, giving_starts, giving_takes, on_err, token_unspent}
use Rattle.pp_rs.proofs.pp.preprocessor.Preprocessor.give_all.Goals as goal

pub items-init : goal.items-init
items-init g c = record { unspent = c.requires.unspent; rules = refl; giving = giving_starts _ _ _ _ }

pub step-requires : goal.step-requires
step-requires g c = (c.in_ok-give_words.ensures {u = tt}).spent

-- the sink is full
pub returns-then-is_full-clause-gives : goal.returns-then-is_full-clause-gives
returns-then-is_full-clause-gives g c =
    let front = c.in_ok-give_front.ensures {u = tt} in
    giving_full _ _ _ _ _ _ _ (front.giving _ _ c.items.invariant.giving) (sym c.is_full.ensures ∙ c.if-is_full.true)

pub returns-then-is_full-2-clause-gives : goal.returns-then-is_full-2-clause-gives
returns-then-is_full-2-clause-gives g c =
    let front = c.in_ok-give_front.ensures {u = tt} in
    let words = c.in_ok-give_words.ensures {u = tt} in
    giving_full _ _ _ _ _ _ _ (words.giving _ _ (front.giving _ _ c.items.invariant.giving)) (sym c.is_full-in-items.ensures ∙ c.if-is_full-2.true)

-- an ordinary token, for which memory was taken
pub items-preserved-in-Continue-branch-3 : goal.items-preserved-in-Continue-branch-3
items-preserved-in-Continue-branch-3 g c =
    let front = c.in_ok-give_front.ensures {u = tt} in
    let words = c.in_ok-give_words.ensures {u = tt} in
    let giving = words.giving _ _ (front.giving _ _ c.items.invariant.giving) in
    let next = rw (c.in-Some-Some-Ok.is, c.in-Some-Some-Ok.field-0-is, c.in-Some-Some-Ok.field-0-0-is) at c.step.ensures in
    record {
      unspent = token_unspent _ _ c.in-Some-Some-Ok.token words.spent next;
      rules = next.rules ∙ c.give_words.ensures.rules ∙ c.give_front.ensures.rules ∙ c.items.invariant.rules;
      giving = giving_takes _ _ _ _ _ _ giving words.spent c.of_token.result _ _
          (rw c.of_token.ensures.token next) (c.of_token.ensures.origin ∙ c.origin.ensures) (c.in_ok-given-in-Some-Some-Ok.ensures {u = tt}).taken;
    }

-- a pause
pub items-preserved : goal.items-preserved
items-preserved g c =
    let front = c.in_ok-give_front.ensures {u = tt} in
    let words = c.in_ok-give_words.ensures {u = tt} in
    let pause = rw c.in-None.is at c.step.ensures in
    record {
      unspent = pause.passed.spent ∙ words.spent;
      rules = pause.passed.rules ∙ c.give_words.ensures.rules ∙ c.give_front.ensures.rules ∙ c.items.invariant.rules;
      giving = giving_passes _ _ _ _ _ _ (words.giving _ _ (front.giving _ _ c.items.invariant.giving)) (sym c.is_full-in-items.ensures ∙ c.if-is_full-2.false) _
          pause.passed;
    }

-- memory runs out
pub returns-in_err-give_front-clause-refused : goal.returns-in_err-give_front-clause-refused
returns-in_err-give_front-clause-refused g c =
    on_err c.from_residual.result ((c.in_err-give_front.ensures {u = tt}).refused _ _ c.items.invariant.giving)

pub returns-in_err-give_words-clause-refused : goal.returns-in_err-give_words-clause-refused
returns-in_err-give_words-clause-refused g c =
    let front = c.in_ok-give_front.ensures {u = tt} in
    on_err c.from_residual-in_err-give_words.result
    ((c.in_err-give_words.ensures {u = tt}).refused _ _ (front.giving _ _ c.items.invariant.giving))

pub returns-in_err-given-in-Some-Some-Ok-clause-refused : goal.returns-in_err-given-in-Some-Some-Ok-clause-refused
returns-in_err-given-in-Some-Some-Ok-clause-refused g c =
    let front = c.in_ok-give_front.ensures {u = tt} in
    let words = c.in_ok-give_words.ensures {u = tt} in
    let next = rw (c.in-Some-Some-Ok.is, c.in-Some-Some-Ok.field-0-is, c.in-Some-Some-Ok.field-0-0-is) at c.step.ensures in
    on_err c.from_residual-in_err-given-in-Some-Some-Ok.result
    (giving_refused _ _ _ _ _ _ _ (words.giving _ _ (front.giving _ _ c.items.invariant.giving)) (sym c.is_full-in-items.ensures ∙ c.if-is_full-2.false) words.spent
    (omega (arith, next.less_left)) _ (inr (c.in_err-given-in-Some-Some-Ok.ensures {u = tt}).refused))

-- a directive, an error and the end
pub returns-then-not-is_ordinary-clause-gives : goal.returns-then-not-is_ordinary-clause-gives
returns-then-not-is_ordinary-clause-gives g c =
    let front = c.in_ok-give_front.ensures {u = tt} in
    let words = c.in_ok-give_words.ensures {u = tt} in
    giving_ends _ _ _ _ _ _ _ (words.giving _ _ (front.giving _ _ c.items.invariant.giving)) (sym c.is_full-in-items.ensures ∙ c.if-is_full-2.false) words.spent _ _
    (rw (c.in-Some-Some-Ok.is, c.in-Some-Some-Ok.field-0-is, c.in-Some-Some-Ok.field-0-0-is) at c.step.ensures) (sym c.is_ordinary.ensures ∙ c.if-not-is_ordinary.true)

pub returns-in-Some-Some-Err-clause-gives : goal.returns-in-Some-Some-Err-clause-gives
returns-in-Some-Some-Err-clause-gives g c =
    let front = c.in_ok-give_front.ensures {u = tt} in
    let words = c.in_ok-give_words.ensures {u = tt} in
    giving_ends _ _ _ _ _ _ _ (words.giving _ _ (front.giving _ _ c.items.invariant.giving)) (sym c.is_full-in-items.ensures ∙ c.if-is_full-2.false) words.spent _ _
    (rw (c.in-Some-Some-Err.is, c.in-Some-Some-Err.field-0-is, c.in-Some-Some-Err.field-0-0-is) at c.step.ensures) refl

pub returns-in-Some-None-clause-gives : goal.returns-in-Some-None-clause-gives
returns-in-Some-None-clause-gives g c =
    let front = c.in_ok-give_front.ensures {u = tt} in
    let words = c.in_ok-give_words.ensures {u = tt} in
    giving_ends _ _ _ _ _ _ _ (words.giving _ _ (front.giving _ _ c.items.invariant.giving)) (sym c.is_full-in-items.ensures ∙ c.if-is_full-2.false) words.spent _ _
    (rw (c.in-Some-None.is, c.in-Some-None.field-0-is) at c.step.ensures) refl
