use Rattle.std.proofs.Common.{reverse, refl, arith}
use Rattle.pp_directives.specs.inner.DirectiveHalts.{of_line}
use Rattle.pp_directives.specs.inner.LineEntries.{line_entries}
use Rattle.pp_model.specs.Moves.{gives_item, extension_item}
use Rattle.pp_macros.specs.inner.OpenBlocks.{unchanged}
use Rattle.pp_directives.proofs.SourceActsLemmas.{err_result, line_failed}
use Rattle.pp_directives.proofs.directives.DirectiveProcessor.extension.Goals as goal

pub returns-in_err-tokens : goal.returns-in_err-tokens
returns-in_err-tokens c =
    let p = c.self.inside in
    let failed = line_failed (λ t. t) c.in_err-tokens.field-0.0 line_entries (λ items tokens. gives_item (extension_item tokens) c.args.word) unchanged unchanged
    p.rules p.text (record { text = p.earlier_text; directive = p.earlier_directive }) (reverse p.around.items) p.definitions p.blocks p.blocks p.line_offset p.has_text p.has_directive p.dead_for_good p.contents
    p.lexer c.line_tokens.new.lexer (λ items tokens. refl) refl refl (omega arith) c.in_err-tokens.ensures.reads in
    rw (← c.self.view_is, err_result c.from_residual.result (of_line c.in_err-tokens.field-0.0) c.from_residual.ensures.1)
    (record { acts = failed.acts; holds = tt; errors = failed.errors })
