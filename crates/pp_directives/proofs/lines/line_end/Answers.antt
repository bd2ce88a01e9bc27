use Rattle.std.proofs.Common.{◌∙◌, ap, arith, true, false, refl, ℕ, Ok, Err}
use Rattle.std.proofs.lemmas.Result.{err_from_is_err_and}
use Rattle.pp_directives.specs.inner.LineEnds.{first_end}
use Rattle.pp_directives.proofs.FurtherLemmas.{goes_then}
use Rattle.pp_directives.proofs.LineReadingLemmas.{drop_fewer, passed_place, passed_end}
use Rattle.pp_directives.proofs.LineEndLemmas.{end_fails, passed_shown, goes_on, end_later, end_stays, passed_more, passed_whole}
use Rattle.pp_directives.proofs.UnreportedLemmas.{none_then}
use Rattle.pp_directives.proofs.lines.line_end.Goals as goal

pub line-preserved : goal.line-preserved
line-preserved c =
    let before = c.line.invariant in
    let p = c.in_ok-pass_to_end.ensures.reads in
    let rest = c.line.lexer.rest in
    let after = c.pass_to_end.new.lexer.rest in
    let on = p.is ∙ ap Ok c.if-branch.true in
    let goes = goes_on c.args.passes rest true on in
    record {
      whole = passed_more c.args.passes rest after on p.takes.rest ∙ before.whole;
      place = passed_place rest after true (ap Ok goes) refl p.takes.rest ∙ before.place;
      shown = passed_shown c.args.passes rest after on p.takes.rest ∙ before.shown;
      from = c.in_ok-pass_to_end.ensures.end ∙ end_stays c.line.end rest goes ∙ before.from;
      end = end_later c.args.from rest after goes p.takes.rest ∙ before.end;
      fewer = omega (arith, before.fewer, drop_fewer rest after 1 p.takes.rest);
      further = goes_then c.args.lexer.now c.line.lexer c.pass_to_end.new.lexer before.further p.takes.further;
      unspent = p.takes.spent;
      errors = none_then c.args.passes _ _ _ before.errors p.errors;
    }

pub returns : goal.returns
returns c =
    let before = c.line.invariant in
    let p = c.in_ok-pass_to_end.ensures.reads in
    let rest = c.line.lexer.rest in
    let after = c.pass_to_end.new.lexer.rest in
    let off = p.is ∙ ap Ok c.if-branch.false in
    let ends = goes_on c.args.passes rest false off in
    record {
      is = passed_whole c.args.passes c.args.from c.pass_to_end.new.end c.args.lexer.now.rest rest before.whole before.end off
          (c.in_ok-pass_to_end.ensures.end ∙ ap (λ (k : ℕ). first_end k rest) before.from);
      takes = record {
        rest = passed_end rest after false (ap Ok ends) refl p.takes.rest ∙ before.place;
        further = goes_then c.args.lexer.now c.line.lexer c.pass_to_end.new.lexer before.further p.takes.further;
        spent = p.takes.spent;
      };
      fault = tt;
      errors = none_then c.args.passes _ _ _ before.errors p.errors;
    }

pub returns-in_err-pass_to_end : goal.returns-in_err-pass_to_end
returns-in_err-pass_to_end c =
    let e = err_from_is_err_and c.from_residual.result c.from_residual.ensures.1 in
    let before = c.line.invariant in
    rw (e.1 ∙ ap Err e.2)
    (end_fails c.in_err-pass_to_end.field-0.0 c.args.passes c.args.from c.args.lexer.now c.line.lexer c.pass_to_end.new.lexer before.whole before.shown
    before.further before.errors c.in_err-pass_to_end.ensures.reads)
