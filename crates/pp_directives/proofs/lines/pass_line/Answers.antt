use Rattle.std.proofs.Common.{◌∙◌, arith, refl, true}
use Rattle.pp_directives.proofs.FurtherLemmas.{further_none, goes_then}
use Rattle.pp_directives.proofs.LineReadingLemmas.{drop_fewer, passed_place, passed_end}
use Rattle.pp_directives.proofs.UnreportedLemmas.{same_none, none_then}
use Rattle.pp_directives.proofs.lines.pass_line.Goals as goal

pub line-init : goal.line-init
line-init c = record { place = refl; fewer = omega arith; further = further_none _ _; unspent = c.requires; errors = same_none true _ _ refl }

pub line-preserved : goal.line-preserved
line-preserved c =
    let before = c.line.invariant in
    let p = c.in_ok-pass_item.ensures in
    let rest = c.line.lexer.rest in
    let after = c.pass_item.new.lexer.rest in
    record {
      place = passed_place rest after _ p.is c.if-branch.true p.takes.rest ∙ before.place;
      fewer = omega (arith, drop_fewer rest after 1 p.takes.rest);
      further = goes_then c.args.lexer.now c.line.lexer c.pass_item.new.lexer before.further p.takes.further;
      unspent = p.takes.spent;
      errors = none_then true _ _ _ before.errors p.errors;
    }

pub returns : goal.returns
returns c =
    let before = c.line.invariant in
    let p = c.in_ok-pass_item.ensures in
    record {
      is = refl;
      takes = record {
        rest = passed_end c.line.lexer.rest c.pass_item.new.lexer.rest _ p.is c.if-branch.false p.takes.rest ∙ before.place;
        further = goes_then c.args.lexer.now c.line.lexer c.pass_item.new.lexer before.further p.takes.further;
        spent = p.takes.spent;
      };
      fault = tt;
      errors = none_then true _ _ _ before.errors p.errors;
    }
