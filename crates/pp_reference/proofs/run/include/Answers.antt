use Rattle.std.proofs.Common.{ap, refl, sym, ◌∙◌}
use Rattle.std.specs.Prelude.{Option}
use Rattle.pp_model.specs.Emitting.{answers_at, expansion_limit}
use Rattle.pp_model.specs.Run.{without_end}
use Rattle.pp_model.specs.SourceReader.{SourceReader}
use Rattle.pp_model.specs.declared.read.Taken.{Taken}
use Rattle.pp_reference.specs.inner.ReaderState.{reader_of}
use Rattle.pp_reference.specs.inner.Seen.{seen}
use Rattle.pp_reference.specs.inner.SeenSource.{source_state, too_deep}
use Rattle.pp_reference.proofs.RunProgramLemmas.{included_reply}
use Rattle.pp_reference.proofs.run.include.Goals as goal

pub returns-then-is_full : goal.returns-then-is_full
returns-then-is_full c = too_deep c.args.text.now _ _ _ (sym c.is_full.ensures ∙ c.if-is_full.true) refl refl

pub returns : goal.returns
returns c =
    let old = seen source_state c.args.expander.now in
    included_reply (answers_at expansion_limit) c.args.rules c.args.text.now c.in_ok-items.items.items old _
    (sym c.is_full.ensures ∙ c.if-is_full.false) (c.in_ok-items.ensures {u = tt})
    (ap (λ (held : Option Taken). record old { held = held; reader = record old.reader { reader = reader_of c.include.new.self } }) c.drop_end.ensures
    ∙ ap (λ (r : SourceReader). record old { held = without_end old.held; reader = record old.reader { reader = r } }) (c.in_ok-include.ensures {u = tt}))
