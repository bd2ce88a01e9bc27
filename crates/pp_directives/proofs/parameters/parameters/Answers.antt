use Rattle.std.proofs.Common.{◌∙◌, ap, refl, Err, Bool, arith}
use Rattle.std.proofs.lemmas.Result.{err_from_is_err_and}
use Rattle.pp_model.specs.Names.{Name}
use Rattle.pp_macros.specs.inner.ParameterReading.{alone}
use Rattle.pp_macros.proofs.work.ParameterLemmas.{meets_first, meets_refused}
use Rattle.pp_directives.proofs.FurtherLemmas.{goes_then}
use Rattle.pp_directives.proofs.LineReadingLemmas.{drop_fewer}
use Rattle.pp_directives.proofs.ParametersLemmas.{none_first, one_first, names_end, one_more, no_more, fault_goes, none_shown, first_name_shown, end_shown, more_shown, first_fault_shown, end_fault_shown, one_fault_shown}
use Rattle.pp_directives.proofs.parameters.parameters.Goals as goal

pub returns-in_err-first-clause-is : goal.returns-in_err-first-clause-is
returns-in_err-first-clause-is c =
    let e = err_from_is_err_and c.from_residual.result c.from_residual.ensures.1 in
    meets_first _ alone _ c.in_err-first.field-0.0 c.args.word c.args.lexer.now.rest (e.1 ∙ ap Err e.2) c.in_err-first.ensures.is

pub returns-in_err-ends_parameters-clause-is : goal.returns-in_err-ends_parameters-clause-is
returns-in_err-ends_parameters-clause-is c =
    let e = err_from_is_err_and c.from_residual-in_err-ends_parameters.result c.from_residual-in_err-ends_parameters.ensures.1 in
    meets_refused _ _ c.in_err-ends_parameters.field-0.0 _ _ c.parameters.lexer.rest _
    (e.1 ∙ ap Err e.2) c.parameters.invariant.whole c.in_err-ends_parameters.ensures.is

pub returns-in_default-clause-is : goal.returns-in_default-clause-is
returns-in_default-clause-is c =
    let e = c.in_ok-first.ensures in
    none_first c.args.word _ c.args.lexer.now.rest _ _ e.is c.in_default.is c.new-none.ensures e.takes.rest

pub parameters-init : goal.parameters-init
parameters-init c =
    let e = c.in_ok-first.ensures in
    record {
      whole = one_first c.args.word _ _ _ c.args.lexer.now.rest _ _ e.is c.in-Some.is c.new-none.ensures c.in_ok-names.ensures e.takes.rest;
      shown = first_name_shown c.args.word _ _ _ c.args.lexer.now.rest _ _ e.is c.in-Some.is c.new-none.ensures c.in_ok-names.ensures e.takes.rest;
      fewer = omega (arith, drop_fewer c.args.lexer.now.rest c.first_parameter.new.lexer.rest 1 e.takes.rest);
      further = e.takes.further;
      unspent = e.takes.spent;
      errors = e.errors;
    }

pub returns-in_err-name-clause-is : goal.returns-in_err-name-clause-is
returns-in_err-name-clause-is c =
    let e = err_from_is_err_and c.from_residual-in_err-name.result c.from_residual-in_err-name.ensures.1 in
    let n = c.in_ok-ends_parameters.ensures in
    no_more _ _ c.in_err-name.field-0.0 _ _ _ _ _ _ _ (e.1 ∙ ap Err e.2) c.parameters.invariant.whole n.is c.if-not-branch.true n.takes.rest
    refl c.in_err-name.ensures.reads.is

pub parameters-preserved : goal.parameters-preserved
parameters-preserved c =
    let before = c.parameters.invariant in
    let n = c.in_ok-ends_parameters.ensures in
    let o = c.in_ok-name.ensures.reads in
    record {
      whole = one_more _ _ _ _ _ _ _ _ _ _ before.whole n.is c.if-not-branch.true n.takes.rest refl o.is
          c.in_ok-names-2.ensures o.takes.rest;
      shown = more_shown _ _ _ _ _ c.parameters.lexer.rest _ _ _ _ before.shown n.is c.if-not-branch.true n.takes.rest refl o.is
          c.in_ok-names-2.ensures o.takes.rest;
      fewer = omega (
        arith,
        drop_fewer c.parameters.lexer.rest c.ends_parameters.new.lexer.rest 1 n.takes.rest,
        drop_fewer
            c.ends_parameters.new.lexer.rest c.one_parameter.new.lexer.rest 1 o.takes.rest,
        before.fewer,
      );
      further = goes_then c.args.lexer.now c.ends_parameters.new.lexer c.one_parameter.new.lexer
          (goes_then c.args.lexer.now c.parameters.lexer c.ends_parameters.new.lexer before.further n.takes.further) o.takes.further;
      unspent = o.takes.spent;
      errors = o.errors ∙ n.errors ∙ before.errors;
    }

pub returns-clause-is : goal.returns-clause-is
returns-clause-is c =
    let n = c.in_ok-ends_parameters.ensures in
    names_end _ _ _ _ _ _ c.parameters.invariant.whole n.is c.if-not-branch.false n.takes.rest

pub returns-in_err-first-clause-shown : goal.returns-in_err-first-clause-shown
returns-in_err-first-clause-shown c =
    let e = err_from_is_err_and c.from_residual.result c.from_residual.ensures.1 in
    first_fault_shown _ c.in_err-first.field-0.0 c.args.word _ _ (e.1 ∙ ap Err e.2) c.in_err-first.ensures

pub returns-in_err-ends_parameters-clause-shown : goal.returns-in_err-ends_parameters-clause-shown
returns-in_err-ends_parameters-clause-shown c =
    let e = err_from_is_err_and c.from_residual-in_err-ends_parameters.result c.from_residual-in_err-ends_parameters.ensures.1 in
    end_fault_shown _ c.in_err-ends_parameters.field-0.0 _ _ _ _ _ (e.1 ∙ ap Err e.2) c.parameters.invariant.shown c.in_err-ends_parameters.ensures

pub returns-in_default-clause-shown : goal.returns-in_default-clause-shown
returns-in_default-clause-shown c =
    let e = c.in_ok-first.ensures in
    none_shown c.args.word c.args.lexer.now.rest _ _ e.is c.in_default.is e.takes.rest

pub returns-in_err-name-clause-shown : goal.returns-in_err-name-clause-shown
returns-in_err-name-clause-shown c =
    let e = err_from_is_err_and c.from_residual-in_err-name.result c.from_residual-in_err-name.ensures.1 in
    let n = c.in_ok-ends_parameters.ensures in
    one_fault_shown _ c.in_err-name.field-0.0 _ _ _ _ c.parameters.lexer c.ends_parameters.new.lexer _ _ (e.1 ∙ ap Err e.2) c.parameters.invariant.shown n.is c.if-not-branch.true n.takes.rest
    refl c.in_err-name.ensures.reads

pub returns-clause-shown : goal.returns-clause-shown
returns-clause-shown c =
    let n = c.in_ok-ends_parameters.ensures in
    end_shown c.args.word c.parameters.names c.parameters.lexer.rest _ _ _ c.parameters.invariant.shown n.is c.if-not-branch.false n.takes.rest

pub returns-in_err-ends_parameters-clause-goes : goal.returns-in_err-ends_parameters-clause-goes
returns-in_err-ends_parameters-clause-goes c =
    let e = err_from_is_err_and c.from_residual-in_err-ends_parameters.result c.from_residual-in_err-ends_parameters.ensures.1 in
    let before = c.parameters.invariant in
    fault_goes Bool _ c.in_err-ends_parameters.field-0.0 1 1 c.args.lexer.now c.parameters.lexer c.ends_parameters.new.lexer (e.1 ∙ ap Err e.2) before.fewer
    before.further c.in_err-ends_parameters.ensures.takes

pub returns-in_err-name-clause-goes : goal.returns-in_err-name-clause-goes
returns-in_err-name-clause-goes c =
    let e = err_from_is_err_and c.from_residual-in_err-name.result c.from_residual-in_err-name.ensures.1 in
    let before = c.parameters.invariant in
    let n = c.in_ok-ends_parameters.ensures in
    fault_goes Name _ c.in_err-name.field-0.0 1 1 c.args.lexer.now c.ends_parameters.new.lexer c.one_parameter.new.lexer (e.1 ∙ ap Err e.2)
    (omega (arith, drop_fewer c.parameters.lexer.rest c.ends_parameters.new.lexer.rest 1 n.takes.rest, before.fewer))
    (goes_then c.args.lexer.now c.parameters.lexer c.ends_parameters.new.lexer before.further n.takes.further) c.in_err-name.ensures.reads.takes

pub returns-clause-goes : goal.returns-clause-goes
returns-clause-goes c =
    let before = c.parameters.invariant in
    let n = c.in_ok-ends_parameters.ensures in
    record {
      rest = omega (arith, drop_fewer c.parameters.lexer.rest c.ends_parameters.new.lexer.rest 1 n.takes.rest, before.fewer);
      further = goes_then c.args.lexer.now c.parameters.lexer c.ends_parameters.new.lexer before.further n.takes.further;
      spent = n.takes.spent;
    }
