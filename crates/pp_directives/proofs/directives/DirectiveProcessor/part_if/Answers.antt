use Rattle.std.proofs.Common.{reverse, ◌≡◌, ◌∙◌, ◌∷◌, ◌++◌, [], ap, refl, sym, arith, None, Some}
use Rattle.pp_directives.specs.inner.DirectiveHalts.{of_expansion, of_line}
use Rattle.pp_macros.specs.inner.OpenBlocks.{last_block, outer_blocks, block_branched, elif_change}
use Rattle.pp_macros.specs.declared.blocks.OpenBlock.{OpenBlock}
use Rattle.pp_model.specs.Lines.{line_tokens}
use Rattle.pp_model.specs.Moves.{decides}
use Rattle.pp_directives.proofs.SourceActsLemmas.{err_result, line_failed}
use Rattle.pp_directives.proofs.ConditionActsLemmas.{with_last_is, condition_failed, elif_parts, replaced_twice}
use Rattle.pp_directives.proofs.directives.DirectiveProcessor.part_if.Goals as goal

pub returns : goal.returns
returns c =
    let p = c.self.inside in
    let holds = c.in_ok-holds.holds in
    let after = replaced_twice p.blocks c.replace_last.new.self c.replace_last-2.new.self c.skipped.result c.decided.result
    c.replace_last.ensures.is c.replace_last-2.ensures.is in
    rw (← c.self.view_is)
    (elif_parts p.rules p.text (record { text = p.earlier_text; directive = p.earlier_directive }) (reverse p.around.items) p.definitions p.blocks p.line_offset p.has_text p.has_directive p.dead_for_good p.contents p.lexer c.line_reads.new.lexer c.args.word
    c.in_ok-tokens.tokens c.in_ok-tokens.ensures.reads _ _ c.args.block holds c.replace_last-2.new.self
    (rw (c.list_numbering.ensures, c.in_ok-tokens.ensures.directive, c.in_text-place.ensures) at c.in_ok-holds.ensures) (rw (← c.self.view_is) at c.requires.innermost) (after ∙ ap (λ (b : OpenBlock). outer_blocks p.blocks ++ b ∷ []) c.decided.ensures))

pub returns-in_err-tokens : goal.returns-in_err-tokens
returns-in_err-tokens c =
    let p = c.self.inside in
    let last : last_block p.blocks ≡ Some c.args.block = rw (← c.self.view_is) at c.requires.innermost in
    let made : c.replace_last.new.self ≡ elif_change None p.blocks = c.replace_last.ensures.is ∙ ap (λ (b : OpenBlock). outer_blocks p.blocks ++ b ∷ []) c.skipped.ensures
    ∙ sym (with_last_is (block_branched None) p.blocks c.args.block last) in
    rw (← c.self.view_is, err_result c.from_residual.result (of_line c.in_err-tokens.field-0.0) c.from_residual.ensures.1)
    (line_failed (λ line. line.tokens) c.in_err-tokens.field-0.0 line_tokens (λ items. decides c.args.word) elif_change elif_change p.rules p.text (record { text = p.earlier_text; directive = p.earlier_directive }) (reverse p.around.items) p.definitions
    p.blocks c.replace_last.new.self p.line_offset p.has_text
    p.has_directive p.dead_for_good p.contents p.lexer c.line_reads.new.lexer (λ items tokens. refl) refl made (omega (arith, c.replace_last.ensures.count)) c.in_err-tokens.ensures.reads)

pub returns-in_err-holds : goal.returns-in_err-holds
returns-in_err-holds c =
    let p = c.self.inside in
    let last : last_block p.blocks ≡ Some c.args.block = rw (← c.self.view_is) at c.requires.innermost in
    let made : c.replace_last.new.self ≡ elif_change None p.blocks = c.replace_last.ensures.is ∙ ap (λ (b : OpenBlock). outer_blocks p.blocks ++ b ∷ []) c.skipped.ensures
    ∙ sym (with_last_is (block_branched None) p.blocks c.args.block last) in
    rw (← c.self.view_is, err_result c.from_residual-in_err-holds.result (of_expansion c.in_err-holds.field-0.0) c.from_residual-in_err-holds.ensures.1)
    (condition_failed p.rules p.text (record { text = p.earlier_text; directive = p.earlier_directive }) (reverse p.around.items) p.definitions p.blocks p.line_offset p.has_text p.has_directive p.dead_for_good p.contents p.lexer
    c.line_reads.new.lexer c.args.word c.in_ok-tokens.tokens c.in_ok-tokens.ensures.reads elif_change elif_change
    c.replace_last.new.self made (omega (arith, c.replace_last.ensures.count)) c.in_err-holds.field-0.0 (rw (c.list_numbering.ensures, c.in_ok-tokens.ensures.directive, c.in_text-place.ensures) at c.in_err-holds.ensures))
