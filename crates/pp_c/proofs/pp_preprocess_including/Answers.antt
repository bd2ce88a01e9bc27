use Rattle.std.proofs.Common.{inl, inr, arith}
use Rattle.pp_c.proofs.PreprocessedLemmas.{included}
use Rattle.pp_c.proofs.pp_preprocess_including.Goals as goal

pub returns-clause-answer : goal.returns-clause-answer
returns-clause-answer c =
    elim c.answer.ensures.answer [
      | inl less ↦ omega (arith, less)
      | inr texts ↦ (let last = texts.1 in omega (arith, last))
    ]

pub returns-clause-given : goal.returns-clause-given
returns-clause-given c = λ h.
    included _ _ _ _ _ _ _ _ _ c.args.options.now c.args.lines c.in-Some.setting c.in-Some.ensures.known.1 h (c.answer.ensures.given h)

pub returns-clause-answered : goal.returns-clause-answered
returns-clause-answered c = λ h. rw c.in-Some.ensures.known.1 at (c.answer.ensures.answered h)

pub returns-clause-text : goal.returns-clause-text
returns-clause-text c = λ h. c.answer.ensures.text h

pub returns-clause-fit : goal.returns-clause-fit
returns-clause-fit c = λ h. rw c.in-Some.ensures.known.1 at (c.answer.ensures.fit h)

pub returns-clause-bad_definition : goal.returns-clause-bad_definition
returns-clause-bad_definition c = λ h. rw c.in-Some.ensures.known.1 at (c.answer.ensures.bad_definition h)

pub returns-clause-too_deep : goal.returns-clause-too_deep
returns-clause-too_deep c = λ h. rw c.in-Some.ensures.known.1 at (c.answer.ensures.too_deep h)
