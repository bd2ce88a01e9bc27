use Rattle.std.proofs.Common.{ap, ◌∙◌, Ok, Err, refl, rules}
use Rattle.std.proofs.lemmas.Result.{err_from_is_err_and}
use Rattle.pp_expression.specs.Answers.{◌>>=◌}
use Rattle.pp_model.specs.DefineLines.{definition_at}
use Rattle.pp_directives.specs.inner.ReadNames.{as_named, as_placed}
use Rattle.pp_directives.specs.inner.ReadingLines.{first_free_name}
use Rattle.pp_directives.proofs.LineReadingLemmas.{takes_after, free_is_first}
use Rattle.pp_directives.proofs.PartsShownLemmas.{define_shown, define_fails, first_fails}
use Rattle.pp_macros.proofs.work.ParameterLemmas.{name_place}
use Rattle.pp_directives.proofs.lines.define_line.Goals as goal

pub returns : goal.returns
returns c =
    let n = c.in_ok-name.ensures.reads in
    record {
      is = search rules;
      takes = takes_after (Ok c.in_ok-define.define) _ _ _ _ _ _ _ c.in_ok-define.ensures.takes n.takes.further
          (name_place c.args.word c.args.lexer.now.rest c.free_name.new.lexer.rest _ (free_is_first c.args.rules _ _ n.is) n.takes.rest)
          (define_shown c.args.rules c.args.word c.args.lexer.now.rest c.free_name.new.lexer.rest _ n.is n.takes.rest);
      fault = tt;
      errors = search rules;
    }

pub returns-in_err-name : goal.returns-in_err-name
returns-in_err-name c =
    let e = err_from_is_err_and c.from_residual.result c.from_residual.ensures.1 in
    rw (e.1 ∙ ap Err e.2)
    (first_fails (first_free_name c.args.rules c.args.word)
    (λ found items. definition_at c.args.word items >>= λ definition. Ok (record { name = found.name; location = found.location; definition = definition }))
    (λ s items. refl) as_placed as_named c.in_err-name.field-0.0 _ c.args.lexer.now c.free_name.new.lexer c.in_err-name.ensures.reads)

pub returns-in_err-define : goal.returns-in_err-define
returns-in_err-define c =
    let e = err_from_is_err_and c.from_residual-in_err-define.result c.from_residual-in_err-define.ensures.1 in
    let first = c.in_ok-name.ensures.reads in
    rw (e.1 ∙ ap Err e.2)
    (define_fails as_named (λ d. d) c.in_err-define.field-0.0 c.args.rules c.args.word _ c.args.lexer.now c.free_name.new.lexer c.definition.new.lexer first.is
    first.takes.rest first.takes.further first.errors c.in_err-define.ensures)
