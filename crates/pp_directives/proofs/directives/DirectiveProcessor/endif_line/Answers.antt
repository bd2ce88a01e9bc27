use Rattle.std.proofs.Common.{reverse, ◌∙◌, ◌-◌, arith, ap, length, sym}
use Rattle.std.proofs.lemmas.List.{length-take}
use Rattle.pp_directives.specs.inner.DirectiveHalts.{of_line}
use Rattle.pp_directives.proofs.FaultyLinesLemmas.{endif_failed}
use Rattle.pp_directives.proofs.SourceActsLemmas.{err_result}
use Rattle.pp_directives.proofs.directives.DirectiveProcessor.endif_line.Goals as goal

pub returns-in_err-endif_end : goal.returns-in_err-endif_end
returns-in_err-endif_end c =
    let p = c.self.inside in
    rw (← c.self.view_is, err_result c.from_residual.result (of_line c.in_err-endif_end.field-0.0) c.from_residual.ensures.1)
    (endif_failed p.rules p.text (record { text = p.earlier_text; directive = p.earlier_directive }) (reverse p.around.items) p.definitions p.blocks p.line_offset p.has_text p.has_directive p.dead_for_good p.contents c.args.word c.in-Some.block c.in_err-endif_end.field-0.0 c.pop.new.self
    p.lexer c.endif_end.new.lexer (sym c.pop.ensures.is ∙ c.in-Some.is) c.pop.ensures.outer (omega (arith, ap length c.pop.ensures.outer, length-take (length p.blocks - 1) p.blocks)) c.in_err-endif_end.ensures)
