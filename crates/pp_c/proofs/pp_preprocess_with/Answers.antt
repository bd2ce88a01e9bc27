use Rattle.std.proofs.Common.{◌≡◌, true, false, inl, inr, arith}
use Rattle.pp_c.proofs.PreprocessedLemmas.{preprocessed_with}
use Rattle.pp_c.proofs.pp_preprocess_with.Goals as goal

pub returns-clause-answer : goal.returns-clause-answer
returns-clause-answer c =
    elim (rw c.in-Some.ensures.known.1 at c.answer.ensures.answer) [
      | inl less ↦ omega (arith, less)
      | inr texts ↦ (let bad : false ≡ true = texts.0 in cc)
    ]

pub returns-clause-given : goal.returns-clause-given
returns-clause-given c = λ h.
    preprocessed_with _ _ _ _ _ _ _ _ _ c.args.options.now c.in-Some.setting c.in-Some.ensures.known.1 (c.answer.ensures.given (inl h))

pub returns-clause-answered : goal.returns-clause-answered
returns-clause-answered c = λ h. rw c.in-Some.ensures.known.1 at (c.answer.ensures.answered (inl h))

pub returns-clause-room : goal.returns-clause-room
returns-clause-room c = λ h. elim h [
  | inl done ↦ c.answer.ensures.room (inl done)
  | inr partial ↦ c.answer.ensures.room (inr (inl partial))
]

pub returns-clause-text : goal.returns-clause-text
returns-clause-text c = λ h. c.answer.ensures.text (inl h)

pub returns-clause-fit : goal.returns-clause-fit
returns-clause-fit c = λ h. rw c.in-Some.ensures.known.1 at (c.answer.ensures.fit (inl h))

pub returns-clause-bad_definition : goal.returns-clause-bad_definition
returns-clause-bad_definition c = λ h. rw c.in-Some.ensures.known.1 at (c.answer.ensures.bad_definition h)
