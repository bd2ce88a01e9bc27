use Rattle.std.proofs.Common.{◌∙◌, sym, ap, Err, rules}
use Rattle.std.proofs.lemmas.Result.{err_from_is_err_and}
use Rattle.pp_macros.proofs.work.ParameterLemmas.{parameters_on_line}
use Rattle.pp_directives.proofs.FurtherLemmas.{goes_then}
use Rattle.pp_directives.proofs.ParametersLemmas.{function_fails}
use Rattle.pp_directives.proofs.lines.function_after.Goals as goal

pub returns : goal.returns
returns c =
    let p = parameters_on_line c.args.word c.args.lexer.now.rest _ c.in_ok-names.ensures.is in
    let t = c.in_ok-read_rest.ensures.reads.takes in
    record { is = search rules; takes = record { rest = t.rest ∙ sym p.place; further = goes_then c.args.lexer.now c.parameters.new.lexer c.read_rest.new.lexer c.in_ok-names.ensures.goes.further t.further; spent = t.spent }; fault = tt; errors = search rules }

pub returns-in_err-read_rest : goal.returns-in_err-read_rest
returns-in_err-read_rest c =
    let e = err_from_is_err_and c.from_residual-in_err-read_rest.result c.from_residual-in_err-read_rest.ensures.1 in
    let names = c.in_ok-names.ensures in
    rw (e.1 ∙ ap Err e.2)
    (function_fails (λ d. d) (λ _. c.read_rest.new.tokens.tokens) c.in_err-read_rest.field-0.0 c.args.word _ c.args.lexer.now c.parameters.new.lexer
    c.read_rest.new.lexer names.is names.goes.further names.shown names.errors c.in_err-read_rest.ensures.reads)
