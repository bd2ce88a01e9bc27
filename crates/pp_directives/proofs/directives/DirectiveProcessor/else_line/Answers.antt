use Rattle.std.proofs.Common.{reverse}
use Rattle.pp_directives.specs.inner.DirectiveHalts.{of_line}
use Rattle.pp_macros.specs.inner.OpenBlocks.{facts_among}
use Rattle.pp_directives.proofs.FaultyLinesLemmas.{else_failed}
use Rattle.pp_directives.proofs.SourceActsLemmas.{err_result}
use Rattle.pp_directives.proofs.directives.DirectiveProcessor.else_line.Goals as goal

pub returns-in_err-ended_line : goal.returns-in_err-ended_line
returns-in_err-ended_line c =
    let p = c.self.inside in
    rw (← c.self.view_is, err_result c.from_residual.result (of_line c.in_err-ended_line.field-0.0) c.from_residual.ensures.1)
    (else_failed p.rules p.text (record { text = p.earlier_text; directive = p.earlier_directive }) (reverse p.around.items) p.definitions p.blocks p.line_offset p.has_text p.has_directive p.dead_for_good p.contents c.args.word (facts_among p.blocks) c.in_err-ended_line.field-0.0
    p.lexer c.ended_line.new.lexer c.in_err-ended_line.ensures)
