use Rattle.std.proofs.Common.{reverse, arith, refl, sym, true}
use Rattle.pp_directives.specs.inner.DirectiveHalts.{of_expansion, of_line}
use Rattle.pp_directives.specs.inner.SourceActs.{directive_act}
use Rattle.pp_model.specs.Lines.{line_tokens}
use Rattle.pp_model.specs.Moves.{renumbers}
use Rattle.pp_model.specs.declared.directive.Directive.TheVariants as d
use Rattle.pp_macros.specs.inner.OpenBlocks.{unchanged, facts_among}
use Rattle.pp_directives.proofs.SourceActsLemmas.{err_result, line_failed}
use Rattle.pp_directives.proofs.ConditionActsLemmas.{number_failed, same_acts, line_numbers}
use Rattle.pp_directives.proofs.directives.DirectiveProcessor.number_lines.Goals as goal

pub returns-in-Ok : goal.returns-in-Ok
returns-in-Ok c =
    let p = c.self.inside in
    let number = rw (c.in-Ok.is, c.list_numbering.ensures, c.in_ok-tokens.ensures.directive, c.in_text-place.ensures) at c.line_number.ensures.is in
    rw (← c.self.view_is, c.count_from.ensures)
    (line_numbers p.rules p.text (record { text = p.earlier_text; directive = p.earlier_directive }) (reverse p.around.items) p.definitions p.blocks p.line_offset p.has_text p.has_directive p.dead_for_good p.contents p.lexer c.line_reads.new.lexer c.args.word
    c.in_ok-tokens.tokens c.in_ok-tokens.ensures.reads _ _ c.in-Ok.number _ number refl)

pub returns-in_err-tokens : goal.returns-in_err-tokens
returns-in_err-tokens c =
    let p = c.self.inside in
    rw (← c.self.view_is, err_result c.from_residual.result (of_line c.in_err-tokens.field-0.0) c.from_residual.ensures.1)
    (line_failed (λ line. line.tokens) c.in_err-tokens.field-0.0 line_tokens (λ items. renumbers c.args.word) unchanged unchanged p.rules p.text (record { text = p.earlier_text; directive = p.earlier_directive }) (reverse p.around.items) p.definitions
    p.blocks p.blocks p.line_offset p.has_text p.has_directive p.dead_for_good p.contents p.lexer
    c.line_reads.new.lexer (λ items tokens. refl) refl refl (omega arith) c.in_err-tokens.ensures.reads)

pub returns-in-Some : goal.returns-in-Some
returns-in-Some c =
    let p = c.self.inside in
    let number = rw (c.in-Err.is, c.list_numbering.ensures, c.in_ok-tokens.ensures.directive, c.in_text-place.ensures) at c.line_number.ensures.is in
    let first = rw (c.in-Err.is, c.list_numbering.ensures, c.in_ok-tokens.ensures.directive, c.in_text-place.ensures, c.in-Some.is) at c.line_number.ensures.first in
    rw c.from.ensures (same_acts (λ s. directive_act s.rules true (facts_among s.blocks) d.Line c.args.word s.rest) (of_expansion c.in-Err.unnumbered.halt) _ _ _ _ c.self.view_is (sym c.count_from-in-Some.ensures)
    (number_failed p.rules p.text (record { text = p.earlier_text; directive = p.earlier_directive }) (reverse p.around.items) p.definitions p.blocks p.line_offset p.has_text p.has_directive p.dead_for_good p.contents p.lexer
    c.line_reads.new.lexer c.args.word c.in_ok-tokens.tokens c.in_ok-tokens.ensures.reads _ _
    c.in-Err.unnumbered.halt number first refl))

pub returns-in-None : goal.returns-in-None
returns-in-None c =
    let p = c.self.inside in
    let number = rw (c.in-Err.is, c.list_numbering.ensures, c.in_ok-tokens.ensures.directive, c.in_text-place.ensures) at c.line_number.ensures.is in
    let first = rw (c.in-Err.is, c.list_numbering.ensures, c.in_ok-tokens.ensures.directive, c.in_text-place.ensures, c.in-None.is) at c.line_number.ensures.first in
    rw c.from-in-None.ensures (same_acts (λ s. directive_act s.rules true (facts_among s.blocks) d.Line c.args.word s.rest) (of_expansion c.in-Err.unnumbered.halt) _ _ _ _ c.self.view_is refl
    (number_failed p.rules p.text (record { text = p.earlier_text; directive = p.earlier_directive }) (reverse p.around.items) p.definitions p.blocks p.line_offset p.has_text p.has_directive p.dead_for_good p.contents p.lexer
    c.line_reads.new.lexer c.args.word c.in_ok-tokens.tokens c.in_ok-tokens.ensures.reads _ p.line_offset
    c.in-Err.unnumbered.halt number first refl))
