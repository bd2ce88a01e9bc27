use Rattle.std.proofs.Common.{List, option_map, Ok, Err, ap, ◌∙◌, rules}
use Rattle.std.proofs.lemmas.Result.{err_from_is_err_and}
use Rattle.pp_lexer.specs.declared.token.Token.{Token}
use Rattle.pp_directives.proofs.HeldLemmas.{preorder_ordinary}
use Rattle.pp_directives.proofs.LineReadingLemmas.{reads_line, line_fails, entries_fail}
use Rattle.pp_directives.specs.inner.TokenLists.{token_of}
use Rattle.pp_directives.proofs.lines.line_tokens.Goals as goal

pub returns-clause-reads : goal.returns-clause-reads
returns-clause-reads c =
    let read = c.in_ok-read_line.ensures.reads.reads in
    let r = reads_line _ (option_map token_of) c.in_ok-first.first (Ok c.in_ok-read_line.field-0) _ _ _ c.in_ok-first.ensures.reads read in
    record { is = search rules; takes = r.takes; fault = r.fault; errors = r.errors }

pub returns-clause-ordinary : goal.returns-clause-ordinary
returns-clause-ordinary c = rw (c.from.ensures, c.shrink_to_fit.ensures.items) (preorder_ordinary c.read_line.new.tokens.items c.in_ok-read_line.ensures.reads.ordinary)

pub returns-in_err-first-clause-reads : goal.returns-in_err-first-clause-reads
returns-in_err-first-clause-reads c =
    let e = err_from_is_err_and c.from_residual.result c.from_residual.ensures.1 in
    let h = c.in_err-first.field-0.0 in
    let shows : List Token → List Token = λ tokens. tokens in
    rw (e.1 ∙ ap Err e.2)
    (entries_fail shows (λ t. t) h c.args.lexer.now c.next_line_token.new.lexer
    (line_fails shows (option_map token_of) h c.args.lexer.now c.next_line_token.new.lexer c.in_err-first.ensures.reads))

pub returns-in_err-read_line-clause-reads : goal.returns-in_err-read_line-clause-reads
returns-in_err-read_line-clause-reads c =
    let e = err_from_is_err_and c.from_residual-in_err-read_line.result c.from_residual-in_err-read_line.ensures.1 in
    let h = c.in_err-read_line.field-0.0 in
    rw (e.1 ∙ ap Err e.2)
    (entries_fail _ (λ t. t) h c.args.lexer.now c.read_line.new.lexer
    (reads_line _ (option_map token_of) c.in_ok-first.first (Err h) c.args.lexer.now c.next_line_token.new.lexer c.read_line.new.lexer
    c.in_ok-first.ensures.reads c.in_err-read_line.ensures.reads.reads))
