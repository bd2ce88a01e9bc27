use Rattle.std.proofs.Common.{ap, ◌∙◌, arith, Ok, Err, rules}
use Rattle.std.proofs.lemmas.Result.{err_from_is_err_and}
use Rattle.pp_directives.proofs.FurtherLemmas.{goes_then}
use Rattle.pp_directives.proofs.LineReadingLemmas.{drop_fewer, skipped_more, skipped_place, skipped_shown, skip_fails}
use Rattle.pp_directives.proofs.lines.skip_tokens.Goals as goal

pub line-preserved : goal.line-preserved
line-preserved c =
    let before = c.line.invariant in
    let p = c.in_ok-pass_token.ensures.reads in
    let rest = c.line.lexer.rest in
    let after = c.pass_token.new.lexer.rest in
    let on = p.is ∙ ap Ok c.if-branch.true in
    record {
      whole = skipped_more rest after on p.takes.rest ∙ before.whole;
      place = skipped_place rest after on p.takes.rest ∙ before.place;
      shown = skipped_shown rest after on p.takes.rest ∙ before.shown;
      fewer = omega (arith, drop_fewer rest after 1 p.takes.rest);
      further = goes_then c.args.lexer.now c.line.lexer c.pass_token.new.lexer before.further p.takes.further;
      unspent = p.takes.spent;
      errors = p.errors ∙ before.errors;
    }

pub returns-in_err-pass_token-clause-reads : goal.returns-in_err-pass_token-clause-reads
returns-in_err-pass_token-clause-reads c =
    let e = err_from_is_err_and c.from_residual.result c.from_residual.ensures.1 in
    let before = c.line.invariant in
    rw (e.1 ∙ ap Err e.2)
    (skip_fails c.in_err-pass_token.field-0.0 c.args.lexer.now c.line.lexer c.pass_token.new.lexer before.whole before.shown before.further before.errors
    c.in_err-pass_token.ensures.reads)

pub returns-clause-reads : goal.returns-clause-reads
returns-clause-reads c =
    let before = c.line.invariant in
    let p = c.in_ok-pass_token.ensures.reads in
    record {
      is = search rules;
      takes = record {
        rest = search rules;
        further = goes_then c.args.lexer.now c.line.lexer c.pass_token.new.lexer before.further p.takes.further;
        spent = p.takes.spent;
      };
      fault = tt;
      errors = search rules;
    }
