use Rattle.std.proofs.Common.{◌∙◌, ap, refl}
use Rattle.std.specs.Prelude.{Some}
use Rattle.pp_model.specs.Emitting.{answers_at, expansion_limit}
use Rattle.pp_reference.specs.inner.Acting.{arrived}
use Rattle.pp_reference.specs.inner.ReaderState.{reader_of}
use Rattle.pp_model.specs.declared.step.Step.{Step}
use Rattle.pp_model.specs.declared.step.Step.TheVariants as step
use Rattle.pp_model.specs.Painting.{taken_of}
use Rattle.pp_reference.proofs.FaultLemmas.{comes, gives_does, gives_defines, gives_number_if_ok}
use Rattle.pp_reference.proofs.source_reader.SourceReader.step.Goals as goal

pub returns-in-Passed-clause-gives : goal.returns-in-Passed-clause-gives
returns-in-Passed-clause-gives c =
    let after = reader_of c.act.new.self in
    rw c.uncounted.ensures (gives_does (answers_at expansion_limit) c.args.outside (reader_of c.args.self.now) step.Passed after after _
    ((c.in_ok-act.ensures {u = tt}).acts ∙ ap (λ (s : Step). comes s (arrived s after)) c.in-Passed.is) (refl, refl) refl)

pub returns-in-Given-clause-gives : goal.returns-in-Given-clause-gives
returns-in-Given-clause-gives c =
    let after = reader_of c.act.new.self in
    rw c.uncounted-in-Given.ensures (gives_does (answers_at expansion_limit) c.args.outside (reader_of c.args.self.now) (step.Given c.in-Given.outcome) after after _
    ((c.in_ok-act.ensures {u = tt}).acts ∙ ap (λ (s : Step). comes s (arrived s after)) c.in-Given.is)
    (ap Some (c.of_text.ensures ∙ ap (λ text. taken_of text c.in-Given.outcome) c.text-text.ensures), refl) refl)

pub returns-in_ok-define_named-in-Defines-clause-gives : goal.returns-in_ok-define_named-in-Defines-clause-gives
returns-in_ok-define_named-in-Defines-clause-gives c =
    let after = reader_of c.act.new.self in
    rw c.uncounted-in-Defines.ensures (gives_defines (answers_at expansion_limit) c.args.outside (reader_of c.args.self.now) c.in-Defines.named after _ _
    ((c.in_ok-act.ensures {u = tt}).acts ∙ ap (λ (s : Step). comes s (arrived s after)) c.in-Defines.is)
    (rw c.text-text.ensures at (c.in_ok-define_named-in-Defines.ensures {u = tt})))

pub returns-in-LineNumber-clause-gives : goal.returns-in-LineNumber-clause-gives
returns-in-LineNumber-clause-gives c =
    let after = reader_of c.act.new.self in
    gives_number_if_ok (answers_at expansion_limit) c.args.outside (reader_of c.args.self.now) c.in-LineNumber.word c.in-LineNumber.tokens after _ c.read_number.result
    ((c.in_ok-act.ensures {u = tt}).acts ∙ ap (λ (s : Step). comes s (arrived s after)) c.in-LineNumber.is)
    (ap reader_of (rw c.in-LineNumber.is at (c.in_ok-act.ensures {u = tt}).line).0) c.read_number.ensures.renumbers c.read_number.ensures.counts
