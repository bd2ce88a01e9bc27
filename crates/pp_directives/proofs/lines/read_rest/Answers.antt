use Rattle.std.proofs.Common.{ap, ◌∙◌, Err, option_map}
use Rattle.std.proofs.lemmas.Result.{err_from_is_err_and}
use Rattle.pp_directives.specs.inner.TokenLists.{token_of}
use Rattle.pp_directives.proofs.LineReadingLemmas.{reads_line, line_fails}
use Rattle.pp_directives.proofs.lines.read_rest.Goals as goal

pub returns-clause-reads : goal.returns-clause-reads
returns-clause-reads g c =
    let read = c.read_line.ensures.reads.reads in
    reads_line _ (option_map token_of) c.in_ok-first.first c.read_line.result _ _ _ c.in_ok-first.ensures.reads read

pub returns-in_err-first-clause-reads : goal.returns-in_err-first-clause-reads
returns-in_err-first-clause-reads g c =
    let e = err_from_is_err_and c.from_residual.result c.from_residual.ensures.1 in
    rw (e.1 ∙ ap Err e.2)
    (line_fails _ (option_map token_of) c.in_err-first.field-0.0 c.args.lexer.now c.next_line_token.new.lexer c.in_err-first.ensures.reads)
