use Rattle.std.proofs.Common.{◌≡◌, ◌∙◌, Bool, false, true, Option, Some, None, refl, sym, arith}
use Rattle.pp_macros.specs.Item.{Item}
use Rattle.pp_rs.specs.Kept.{is_spent}
use Rattle.pp_rs.proofs.runs.NextLemmas.{next_none}
use Rattle.pp_rs.proofs.runs.NextWordLemmas.{never_both, passed_again, passed_next}
use Rattle.pp_rs.proofs.runs.PassedLemmas.{passed_nothing}
use Rattle.pp_rs.proofs.pp.preprocessor.Preprocessor.next_item.Goals as goal

-- what gives an item only if memory didn't run out
gives_fresh : (spent : Bool) (answer : Option Item) (item : Item) → (spent ≡ true → answer ≡ None) → answer ≡ Some item → spent ≡ false
gives_fresh false answer item none some = refl
gives_fresh true answer item none some = let nothing = none refl in cc

pub steps-init : goal.steps-init
steps-init c = record { passed = passed_nothing _; spent = λ _. refl }

pub returns-in-Some : goal.returns-in-Some
returns-in-Some c =
    let fresh = gives_fresh _ _ _ (λ spent. (c.next_text.ensures.spent spent).0) c.in-Some.is in
    passed_next _ _ _ _ (sym c.steps.invariant.passed.spent ∙ fresh) c.steps.invariant.passed (rw c.in-Some.is at c.next_text.ensures.gives)

-- memory had run out
pub returns-then-is_spent : goal.returns-then-is_spent
unfolding is_spent
returns-then-is_spent c =
    let text = rw c.in_default.is at c.next_text.ensures.gives in
    let before = sym text.spent ∙ sym c.is_spent.ensures ∙ c.if-is_spent.true in
    rw ((c.next_text.ensures.spent before).1, c.steps.invariant.spent before)
    (next_none c.args.self.now (sym c.steps.invariant.passed.spent ∙ before))

pub next_other-requires : goal.next_other-requires
next_other-requires c = sym c.is_spent.ensures ∙ c.if-is_spent.false

pub returns-in-Some-next_other : goal.returns-in-Some-next_other
returns-in-Some-next_other c =
    let text = rw c.in_default.is at c.next_text.ensures.gives in
    let fresh = sym c.is_spent.ensures ∙ c.if-is_spent.false in
    passed_next _ _ _ _ (sym c.steps.invariant.passed.spent ∙ sym text.spent ∙ fresh) (passed_again _ _ _ c.steps.invariant.passed text)
    (rw c.in-Some-next_other.is at c.next_other.ensures)

pub steps-preserved : goal.steps-preserved
steps-preserved c =
    let text = rw c.in_default.is at c.next_text.ensures.gives in
    let pause = rw c.in_default-next_other.is at c.next_other.ensures in
    let fresh = sym c.is_spent.ensures ∙ c.if-is_spent.false in
    record {
      passed = passed_again _ _ _ c.steps.invariant.passed (passed_again _ _ _ text pause.passed);
      spent = λ spent. never_both _ (pause.passed.spent ∙ fresh) spent;
    }

pub steps-smaller : goal.steps-smaller
steps-smaller c =
    let text = rw c.in_default.is at c.next_text.ensures.gives in
    let pause = rw c.in_default-next_other.is at c.next_other.ensures in
    omega (arith, text.no_more_left, pause.less_left)
