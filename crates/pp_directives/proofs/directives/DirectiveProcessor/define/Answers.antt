use Rattle.std.proofs.Common.{reverse, arith, refl}
use Rattle.pp_directives.specs.inner.DirectiveHalts.{of_line}
use Rattle.pp_model.specs.DefineLines.{defined_on}
use Rattle.pp_model.specs.Moves.{defines}
use Rattle.pp_macros.specs.inner.OpenBlocks.{unchanged}
use Rattle.pp_directives.specs.inner.ReadNames.{as_named}
use Rattle.pp_directives.proofs.SourceActsLemmas.{err_result, line_failed, define_acts}
use Rattle.pp_directives.proofs.directives.DirectiveProcessor.define.Goals as goal

pub returns-in_err-line : goal.returns-in_err-line
returns-in_err-line c =
    let p = c.self.inside in
    rw (← c.self.view_is, err_result c.from_residual.result (of_line c.in_err-line.field-0.0) c.from_residual.ensures.1)
    (line_failed as_named c.in_err-line.field-0.0 (defined_on p.rules c.args.word) (λ items. defines) unchanged unchanged p.rules p.text (record { text = p.earlier_text; directive = p.earlier_directive }) (reverse p.around.items) p.definitions p.blocks
    p.blocks p.line_offset p.has_text p.has_directive p.dead_for_good p.contents p.lexer c.define_line.new.lexer (λ items named. refl) refl refl (omega arith)
    c.in_err-line.ensures)

pub returns : goal.returns
returns c =
    let p = c.self.inside in
    rw (← c.self.view_is)
    (define_acts p.rules p.text (record { text = p.earlier_text; directive = p.earlier_directive }) (reverse p.around.items) p.definitions p.blocks p.line_offset p.has_text p.has_directive p.dead_for_good p.contents p.lexer c.define_line.new.lexer c.args.word
    as_named c.in_ok-line.line c.add.result c.add.new.self c.in_ok-line.ensures c.add.ensures)
