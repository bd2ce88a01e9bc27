use Rattle.std.proofs.Common.{◌-◌, ◌∙◌, sym, arith}
use Rattle.glslpp_parts.proofs.ColumnsLemmas.{column_at-line_start}
use Rattle.glslpp_parts.proofs.columns.nearest.Goals as goal

pub returns-then-is_line_end_byte-clause-right : goal.returns-then-is_line_end_byte-clause-right
returns-then-is_line_end_byte-clause-right c =
    sym (column_at-line_start c.args.bytes.now c.bytes.start (c.bytes.start - 1) (omega arith) (omega arith)
    (sym c.is_line_end_byte.ensures ∙ c.if-is_line_end_byte.true))
