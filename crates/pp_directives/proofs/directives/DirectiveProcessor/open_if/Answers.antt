use Rattle.std.proofs.Common.{reverse, arith, ◌∙◌, ◌∷◌, ◌++◌, [], ap, refl, Some}
use Rattle.pp_directives.specs.inner.DirectiveHalts.{of_expansion, of_line}
use Rattle.pp_macros.specs.declared.blocks.OpenBlock.{OpenBlock}
use Rattle.pp_model.specs.Lines.{line_tokens}
use Rattle.pp_model.specs.Moves.{decides}
use Rattle.pp_model.specs.declared.block.Part.TheVariants as part
use Rattle.pp_macros.specs.inner.OpenBlocks.{unchanged, block_change}
use Rattle.pp_directives.proofs.SourceActsLemmas.{err_result, line_failed}
use Rattle.pp_directives.proofs.ConditionActsLemmas.{condition_failed, if_opens}
use Rattle.pp_directives.proofs.directives.DirectiveProcessor.open_if.Goals as goal

pub returns : goal.returns
returns c =
    let p = c.self.inside in
    rw (← c.self.view_is)
    (if_opens p.rules p.text (record { text = p.earlier_text; directive = p.earlier_directive }) (reverse p.around.items) p.definitions p.blocks p.line_offset p.has_text p.has_directive p.dead_for_good p.contents p.lexer c.line_reads.new.lexer c.args.word
    c.in_ok-tokens.tokens c.in_ok-tokens.ensures.reads _ _ c.in_ok-holds.holds c.push.new.self
    (rw (c.list_numbering.ensures, c.in_ok-tokens.ensures.directive, c.in_text-place.ensures) at c.in_ok-holds.ensures) (c.in_ok-push.ensures ∙ ap (λ (b : OpenBlock). p.blocks ++ b ∷ []) c.opened.ensures))

pub returns-in_err-tokens : goal.returns-in_err-tokens
returns-in_err-tokens c =
    let p = c.self.inside in
    rw (← c.self.view_is, err_result c.from_residual.result (of_line c.in_err-tokens.field-0.0) c.from_residual.ensures.1)
    (line_failed (λ line. line.tokens) c.in_err-tokens.field-0.0 line_tokens (λ items. decides c.args.word) (block_change (Some part.Opens) c.args.word) unchanged
    p.rules p.text (record { text = p.earlier_text; directive = p.earlier_directive }) (reverse p.around.items) p.definitions p.blocks p.blocks p.line_offset p.has_text p.has_directive
    p.dead_for_good p.contents p.lexer c.line_reads.new.lexer (λ items tokens. refl) refl refl (omega arith) c.in_err-tokens.ensures.reads)

pub returns-in_err-holds : goal.returns-in_err-holds
returns-in_err-holds c =
    let p = c.self.inside in
    rw (← c.self.view_is, err_result c.from_residual-in_err-holds.result (of_expansion c.in_err-holds.field-0.0) c.from_residual-in_err-holds.ensures.1)
    (condition_failed p.rules p.text (record { text = p.earlier_text; directive = p.earlier_directive }) (reverse p.around.items) p.definitions p.blocks p.line_offset p.has_text p.has_directive p.dead_for_good p.contents p.lexer
    c.line_reads.new.lexer c.args.word c.in_ok-tokens.tokens c.in_ok-tokens.ensures.reads
    (block_change (Some part.Opens) c.args.word) unchanged p.blocks refl (omega arith) c.in_err-holds.field-0.0 (rw (c.list_numbering.ensures, c.in_ok-tokens.ensures.directive, c.in_text-place.ensures) at c.in_err-holds.ensures))
