use Rattle.std.proofs.Common.{reverse}
use Rattle.pp_directives.specs.inner.DirectiveHalts.{of_line}
use Rattle.pp_directives.specs.inner.ReadNames.{as_placed}
use Rattle.pp_directives.proofs.FaultyLinesLemmas.{name_failed, name_followed}
use Rattle.pp_directives.proofs.SourceActsLemmas.{err_result}
use Rattle.pp_directives.proofs.directives.DirectiveProcessor.undef.Goals as goal

pub returns-in_err-first : goal.returns-in_err-first
returns-in_err-first c =
    let p = c.self.inside in
    rw (← c.self.view_is, err_result c.from_residual.result (of_line c.in_err-first.field-0.0) c.from_residual.ensures.1)
    (name_failed p.rules p.text (record { text = p.earlier_text; directive = p.earlier_directive }) (reverse p.around.items) p.definitions p.blocks p.line_offset p.has_text p.has_directive p.dead_for_good p.contents c.args.word as_placed c.in_err-first.field-0.0
    p.lexer c.free_name.new.lexer c.in_err-first.ensures.reads)

pub returns-in_err-ended_line : goal.returns-in_err-ended_line
returns-in_err-ended_line c =
    let p = c.self.inside in
    let read = c.in_ok-first.ensures.reads in
    rw (← c.self.view_is, err_result c.from_residual-in_err-ended_line.result (of_line c.in_err-ended_line.field-0.0) c.from_residual-in_err-ended_line.ensures.1)
    (name_followed p.rules p.text (record { text = p.earlier_text; directive = p.earlier_directive }) (reverse p.around.items) p.definitions p.blocks p.line_offset p.has_text p.has_directive p.dead_for_good p.contents c.args.word c.in_err-ended_line.field-0.0 (as_placed c.in_ok-first.first) c.remove.new.self
    p.lexer c.free_name.new.lexer c.ended_line.new.lexer read.is read.takes.rest read.takes.further read.errors (rw c.as_str.ensures at c.remove.ensures.change) c.in_err-ended_line.ensures)
