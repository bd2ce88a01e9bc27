use Rattle.std.proofs.Common.{◌∙◌, ap, take, ◌&&◌}
use Rattle.std.specs.List.{list_any}
use Rattle.pp_model.specs.Sights.{is_directive_hash}
use Rattle.pp_reference.specs.inner.ReaderState.{ReaderState, reader_of}
use Rattle.pp_reference.proofs.ShownLemmas.{fault_shown}
use Rattle.pp_reference.proofs.SourceStepLemmas.{ok_more}
use Rattle.pp_reference.proofs.source_reader.SourceReader.fault_length.Goals as goal

pub returns-clause-is : goal.returns-clause-is
returns-clause-is c =
    let rest = c.items_left-rest.result.now in
    ok_more _ _ c.shown_length.result
    (λ taken is. fault_shown c.args.outside (reader_of c.args.self.now) rest (take c.line_length.result rest) c.in_ok-live.live c.takes_line.result c.in_ok-block.block taken
    c.items_left-rest.ensures (ap (λ n. take n rest) c.line_length.ensures.is) (c.takes_line.ensures
    ∙ ap (λ (state : ReaderState). state.rules.passes_dead_errors && list_any (λ s. is_directive_hash s.item) (take 1 (take c.line_length.result rest))) c.self.view_is) c.if-takes_line.false
    (c.in_ok-live.ensures {u = tt}) (c.in_ok-block.ensures {u = tt}) is)
    c.shown_length.ensures.is
