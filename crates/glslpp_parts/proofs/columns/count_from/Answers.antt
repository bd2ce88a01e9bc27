use Rattle.std.proofs.Common.{◌∙◌, get_or, ap, sym, arith}
use Rattle.glslpp_parts.specs.Columns.{column_past, column_at}
use Rattle.glslpp_parts.proofs.ColumnsLemmas.{column_at-le, column_at-next}
use Rattle.glslpp_parts.proofs.columns.count_from.Goals as goal

pub past-column-requires : goal.past-column-requires
past-column-requires c = omega (arith, column_at-le c.args.text.now c.loop-index.index)

pub loop-index-preserved : goal.loop-index-preserved
loop-index-preserved c =
    c.past-column.ensures
    ∙ ap (λ column. column_past column (get_or c.as_bytes-bytes.result.now c.loop-index.index 0)) c.loop-index.invariant
    ∙ ap (λ bytes. column_past (column_at c.args.text.now c.loop-index.index) (get_or bytes c.loop-index.index 0)) c.as_bytes-bytes.ensures.value
    ∙ sym (column_at-next c.args.text.now c.loop-index.index (omega arith))
