use Rattle.std.proofs.Common.{◌∙◌, ap, Err}
use Rattle.std.proofs.lemmas.Result.{err_from_is_err_and}
use Rattle.pp_model.specs.Emitting.{expansion_limit}
use Rattle.pp_macros.specs.inner.Frames.{names_of}
use Rattle.pp_rs.proofs.runs.SourceTurnLemmas.{follows_halt}
use Rattle.pp_rs.proofs.pp.source_turn.follow_call.Goals as goal

pub returns-in_err-finish_call-clause-follows : goal.returns-in_err-finish_call-clause-follows
returns-in_err-finish_call-clause-follows c =
    let e = err_from_is_err_and c.from_residual.result c.from_residual.ensures.1 in
    follows_halt expansion_limit c.expansion_limit.result c.args.source.now c.list_numbering.result c.definitions.result.now
    (names_of c.args.expander.now.below) c.args.call c.args.expander.now.here c.finish_call.new.processor.here c.in_err-finish_call.field-0.0 _
    c.expansion_limit.ensures c.list_numbering.ensures c.definitions.ensures (ap names_of c.requires.alone)
    c.in_err-finish_call.ensures.finishes (e.1 ∙ ap Err e.2)
