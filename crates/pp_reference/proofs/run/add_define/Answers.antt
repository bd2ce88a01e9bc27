use Rattle.std.proofs.Common.{ap, ◌∙◌}
use Rattle.pp_model.specs.Names.{Name}
use Rattle.pp_model.specs.Emitting.{answers_at, expansion_limit}
use Rattle.pp_model.specs.inner.Run.{after_addition}
use Rattle.pp_reference.specs.inner.Seen.{seen}
use Rattle.pp_reference.specs.inner.SeenSource.{source_state}
use Rattle.pp_model.specs.SourceReader.{SourceReader}
use Rattle.pp_reference.proofs.RunProgramLemmas.{refused_reply, added_reply}
use Rattle.pp_reference.proofs.SourceStepLemmas.{ok_more}
use Rattle.pp_reference.proofs.run.add_define.Goals as goal

pub returns-in-Err : goal.returns-in-Err
returns-in-Err c =
    ok_more _ _ c.refusal.result
    (λ r reported. refused_reply (answers_at expansion_limit) c.args.rules c.args.name.now c.args.content.now c.added_body.result c.in-Err.halt
    (seen source_state c.args.expander.now) r c.added_body.ensures c.in-Err.is reported)
    c.refusal.ensures

pub returns-in_ok-add-in-Ok : goal.returns-in_ok-add-in-Ok
returns-in_ok-add-in-Ok c =
    let old = seen source_state c.args.expander.now in
    added_reply (answers_at expansion_limit) c.args.rules c.args.name.now c.args.content.now c.added_body.result c.in-Ok.body old _ c.added_body.ensures c.in-Ok.is
    (ap (λ (r : SourceReader). record old { reader = record old.reader { reader = r } }) ((c.in_ok-add-in-Ok.ensures {u = tt})
    ∙ ap (λ (n : Name). after_addition n c.in-Ok.body old.reader.reader) (c.in_ok-name-in-Ok.ensures {u = tt})))
