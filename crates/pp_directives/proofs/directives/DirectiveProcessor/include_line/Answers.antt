use Rattle.std.proofs.Common.{reverse}
use Rattle.pp_directives.specs.inner.DirectiveHalts.{of_line}
use Rattle.pp_directives.proofs.FaultyLinesLemmas.{include_failed}
use Rattle.pp_directives.proofs.SourceActsLemmas.{err_result}
use Rattle.pp_directives.proofs.directives.DirectiveProcessor.include_line.Goals as goal

pub returns-in_err-end : goal.returns-in_err-end
returns-in_err-end c =
    let p = c.self.inside in
    let failed = include_failed p.rules p.text (record { text = p.earlier_text; directive = p.earlier_directive }) (reverse p.around.items) p.definitions p.blocks p.line_offset p.has_text p.has_directive p.dead_for_good p.contents c.args.word c.args.word.end c.in_err-end.field-0.0
    p.lexer c.line_end.new.lexer c.if-not-self.false c.in_err-end.ensures in
    rw (← c.self.view_is, err_result c.from_residual.result (of_line c.in_err-end.field-0.0) c.from_residual.ensures.1)
    (record { acts = failed.acts; holds = tt; errors = failed.errors })
