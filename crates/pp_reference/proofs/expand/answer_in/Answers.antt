use Rattle.std.proofs.Common.{◌∙◌}
use Rattle.std.proofs.lemmas.Result.{IfOk-weaker}
use Rattle.pp_reference.specs.inner.Changes.{meaning_of}
use Rattle.pp_model.specs.Emitting.{answers_at}
use Rattle.pp_reference.specs.inner.Seen.{seen}
use Rattle.pp_reference.proofs.TurnLemmas.{answer_known}
use Rattle.pp_reference.proofs.expand.answer_in.Goals as goal

pub returns-clause-answers : goal.returns-clause-answers
returns-clause-answers g c =
    IfOk-weaker c.answer.result _ _ (λ answer h. answer_known g.R.Reader.reading (answers_at c.args.levels)
    (seen g.R.Reader.state c.args.expander.now) c.args.call.now
    c.numbering-numbering.result (meaning_of c.visible-visible.result.now) c.deref.result.now answer c.numbering-numbering.ensures c.visible-visible.ensures
    (c.deref.ensures.value ∙ c.in_ok-around.ensures) h) c.answer.ensures.answers
