use Rattle.std.proofs.Common.{◌≡◌, ◌≢◌, true, false, inl, inr, refl, arith}
use Rattle.pp_c.proofs.PreprocessedLemmas.{all_preprocessed, never_partial}
use Rattle.pp_c.proofs.pp_preprocess.Goals as goal

pub returns-clause-answer : goal.returns-clause-answer
returns-clause-answer c =
    let in_time : c.answer.result ≢ 6 = λ e. c.answer.ensures.over_budget e refl in
    let whole : c.answer.result ≢ 7 = λ e. never_partial _ _ _ _ _ _ _ _ _ _ refl (c.answer.ensures.given (inl (inr e))) e in
    elim c.answer.ensures.answer [
      | inl less ↦ omega (arith, less, in_time, whole)
      | inr texts ↦ (let bad : false ≡ true = texts.0 in cc)
    ]

pub returns-clause-given : goal.returns-clause-given
returns-clause-given c = λ h. all_preprocessed _ _ _ _ _ _ _ _ _ _ refl (c.answer.ensures.given (inl (inl h)))

pub returns-clause-answered : goal.returns-clause-answered
returns-clause-answered c = λ h. c.answer.ensures.answered (inl (inl h))

pub returns-clause-text : goal.returns-clause-text
returns-clause-text c = λ h. c.answer.ensures.text (inl (inl h))

pub returns-clause-fit : goal.returns-clause-fit
returns-clause-fit c = λ h. c.answer.ensures.fit (inl (inl h))

pub returns-clause-done : goal.returns-clause-done
returns-clause-done c = λ h. c.answer.ensures.room (inl h)

pub returns-clause-bad_definition : goal.returns-clause-bad_definition
returns-clause-bad_definition c = λ h. c.answer.ensures.bad_definition h
