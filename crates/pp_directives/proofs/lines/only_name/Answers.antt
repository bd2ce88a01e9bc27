use Rattle.std.proofs.Common.{ap, ◌∙◌, Err, Ok, refl}
use Rattle.std.proofs.lemmas.Result.{err_from_is_err_and}
use Rattle.pp_expression.specs.Answers.{◌>>=◌}
use Rattle.pp_model.specs.Lines.{first_name, ended_line}
use Rattle.pp_directives.specs.inner.ReadNames.{as_placed}
use Rattle.pp_directives.proofs.PartsShownLemmas.{first_fails, name_fails}
use Rattle.pp_directives.proofs.lines.only_name.Goals as goal

pub returns-in_err-first : goal.returns-in_err-first
returns-in_err-first c =
    let e = err_from_is_err_and c.from_residual.result c.from_residual.ensures.1 in
    rw (e.1 ∙ ap Err e.2)
    (first_fails (first_name c.args.word) (λ found items. ended_line c.args.word items >>= λ end. Ok found.name) (λ s items. refl) as_placed (λ t. t)
    c.in_err-first.field-0.0 _ c.args.lexer.now c.first_name.new.lexer c.in_err-first.ensures.reads)

pub returns-in_err-ended_line : goal.returns-in_err-ended_line
returns-in_err-ended_line c =
    let e = err_from_is_err_and c.from_residual-in_err-ended_line.result c.from_residual-in_err-ended_line.ensures.1 in
    let first = c.in_ok-first.ensures.reads in
    rw (e.1 ∙ ap Err e.2)
    (name_fails (λ t. t) c.in_err-ended_line.field-0.0 c.args.word _ c.args.lexer.now c.first_name.new.lexer c.ended_line.new.lexer first.is first.takes.rest
    first.takes.further first.errors c.in_err-ended_line.ensures)
