use Rattle.std.proofs.Common.{reverse, refl, arith, Some}
use Rattle.pp_directives.specs.inner.DirectiveHalts.{of_line}
use Rattle.pp_directives.specs.inner.SourceActs.{is_as}
use Rattle.pp_model.specs.Lines.{only_name}
use Rattle.pp_model.specs.Moves.{tests}
use Rattle.pp_model.specs.declared.block.Part.TheVariants as part
use Rattle.pp_macros.specs.inner.OpenBlocks.{unchanged, block_change}
use Rattle.pp_directives.proofs.SourceActsLemmas.{err_result, line_failed}
use Rattle.pp_directives.proofs.directives.DirectiveProcessor.open_where.Goals as goal

pub returns-in_err-name : goal.returns-in_err-name
returns-in_err-name c =
    let p = c.self.inside in
    rw (← c.self.view_is, err_result c.from_residual.result (of_line c.in_err-name.field-0.0) c.from_residual.ensures.1)
    (line_failed (λ t. t) c.in_err-name.field-0.0 (only_name c.args.word) (λ items. tests (is_as c.args.wanted)) (block_change (Some part.Opens) c.args.word) unchanged
    p.rules p.text (record { text = p.earlier_text; directive = p.earlier_directive }) (reverse p.around.items) p.definitions p.blocks p.blocks p.line_offset p.has_text p.has_directive p.dead_for_good p.contents
    p.lexer c.only_name.new.lexer (λ items name. refl) refl refl (omega arith) c.in_err-name.ensures)
