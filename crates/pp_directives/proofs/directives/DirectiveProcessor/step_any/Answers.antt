use Rattle.std.proofs.Common.{reverse, ◌≡◌, false, Option, Ok, Err, sym, ◌∙◌, ap, subst, rules}
use Rattle.pp_lexer.specs.declared.lexer.item.Token.{Token as LexerToken}
use Rattle.pp_model.specs.Conversions.{is_newline}
use Rattle.pp_macros.specs.inner.LineReading.{HasTaken, LeavesSome, next_token}
use Rattle.pp_macros.specs.inner.SourceLexed.{unreported_at}
use Rattle.pp_macros.specs.inner.Unreported.{IsMet}
use Rattle.pp_directives.proofs.NotedLemmas.{and_second}
use Rattle.pp_directives.proofs.PassedErrorsLemmas.{halt_reported, step_same}
use Rattle.pp_directives.proofs.SourceStepLemmas.{step_directive, step_errs, step_halts}
use Rattle.pp_directives.specs.inner.TokenTaking.{TakesToken}
use Rattle.pp_directives.proofs.UnreportedLemmas.{met_none}
use Rattle.pp_directives.proofs.directives.DirectiveProcessor.step_any.Goals as goal

pub returns-in-Hash-clause-reads : goal.returns-in-Hash-clause-reads
returns-in-Hash-clause-reads c =
    let p = c.self.inside in
    let e = c.in-Ok-Some.ensures in
    let same = c.if-pass_newline.ensures in
    let unspent : p.lexer.spent ≡ false = ap (λ s. s.spent) c.self.view_is ∙ c.requires in
    let left : LeavesSome c.in-Ok-Some.field-0 c.next_token.new.self.rest = e.left in
    rw (← c.self.view_is)
    (step_directive p.rules p.text (record { text = p.earlier_text; directive = p.earlier_directive }) (reverse p.around.items) p.definitions p.blocks p.line_offset p.has_text p.has_directive p.dead_for_good p.contents p.lexer c.next_token.new.self c.in-Ok-Some.token
    unspent (ap (λ l. next_token l.rest) (sym same) ∙ e.is ∙ ap Ok c.in-Ok-Some.field-0-is) (subst (λ l. HasTaken 1 l c.next_token.new.self) same e.takes)
    c.step_directive.new.self c.in-Hash.is c.if-token.true
    ((rw c.in-Ok-Some.field-0-is at left) (ap is_newline c.in-Hash.is))
    c.step_directive.result c.step_directive.ensures.reads)

pub returns-in-Err-Fault-clause-reads : goal.returns-in-Err-Fault-clause-reads
returns-in-Err-Fault-clause-reads c =
    let p = c.self.inside in
    let e = rw c.in-Err-Fault.field-0-is at c.in-Err-Fault.ensures in
    let same = c.if-pass_newline.ensures in
    let unspent : p.lexer.spent ≡ false = ap (λ s. s.spent) c.self.view_is ∙ c.requires in
    let one = subst (λ l. HasTaken 1 l c.next_token.new.self) same e.takes in
    rw (← c.self.view_is)
    (step_errs p.rules p.text (record { text = p.earlier_text; directive = p.earlier_directive }) (reverse p.around.items) p.definitions p.blocks p.line_offset p.has_text p.has_directive p.dead_for_good p.contents p.lexer c.take_error_place.new.self
    c.in-Err-Fault.fault unspent (ap (λ l. next_token l.rest) (sym same) ∙ e.is)
    (rw c.take_error_place.ensures.others (record { rest = one.rest; further = one.further; spent = one.spent }))
    (sym c.passes_errors.ensures ∙ c.if-passes_errors.true))

pub returns-in-Err-Fault-clause-errors : goal.returns-in-Err-Fault-clause-errors
returns-in-Err-Fault-clause-errors c =
    let p = c.self.inside in
    let e = rw c.in-Err-Fault.field-0-is at c.in-Err-Fault.ensures in
    let met = subst (λ l. IsMet c.in-Err-Fault.fault (unreported_at l) (unreported_at c.next_token.new.self)) c.if-pass_newline.ensures e.errors in
    let passed = and_second _ p.rules.passes_dead_errors (sym c.passes_errors.ensures ∙ c.if-passes_errors.true) in
    rw (← c.self.view_is, passed)
    (met_none c.in-Err-Fault.fault _ _ _ met (ap unreported_at c.take_error_place.ensures.others))

pub returns-in-Err-clause-errors : goal.returns-in-Err-clause-errors
returns-in-Err-clause-errors c =
    let p = c.self.inside in
    rw (← c.self.view_is)
    (halt_reported (Option LexerToken) p.rules.passes_dead_errors p.text c.in-Err.halt c.from.result _ _ (search rules) (search rules))

pub returns-in_err-token-in_default-clause-errors : goal.returns-in_err-token-in_default-clause-errors
returns-in_err-token-in_default-clause-errors c =
    let p = c.self.inside in
    rw (← c.self.view_is)
    (step_same p.rules.passes_dead_errors c.from_residual.result _ _ (c.in-Ok-Some.ensures.errors ∙ ap unreported_at c.if-pass_newline.ensures))

pub returns-in-Err-clause-reads : goal.returns-in-Err-clause-reads
returns-in-Err-clause-reads c =
    let p = c.self.inside in
    let same = c.if-pass_newline.ensures in
    let unspent : p.lexer.spent ≡ false = ap (λ s. s.spent) c.self.view_is ∙ c.requires in
    let token : TakesToken p.lexer (Err c.in-Err.halt) c.next_token.new.self = subst (λ l. TakesToken l (Err c.in-Err.halt) c.next_token.new.self) same c.in-Err.ensures in
    rw (← c.self.view_is)
    (step_halts p.rules p.text (record { text = p.earlier_text; directive = p.earlier_directive }) (reverse p.around.items) p.definitions p.blocks p.line_offset p.has_text p.has_directive p.dead_for_good p.contents p.lexer c.next_token.new.self unspent c.in-Err.halt c.from.result _ token
    (λ fault is. search rules) (search rules) (search rules))
