use Rattle.std.proofs.Common.{◌∙◌, ap, Err, IsTrue, option_map, arith, rules}
use Rattle.std.proofs.lemmas.Result.{err_from_is_err_and}
use Rattle.std.proofs.lemmas.List.Elements.{All-push}
use Rattle.pp_lexer.specs.TokenValue.{is_ordinary}
use Rattle.pp_lexer.specs.declared.token.Token.{Token}
use Rattle.pp_directives.proofs.CommentsAfterLemmas.{comments_more}
use Rattle.pp_directives.proofs.FurtherLemmas.{goes_then}
use Rattle.pp_directives.proofs.LineReadingLemmas.{whole_more, place_more, shown_more, more_fails, drop_fewer}
use Rattle.pp_directives.proofs.PlainWordLemmas.{readable_ordinary}
use Rattle.pp_directives.specs.inner.TokenLists.{token_of}
use Rattle.pp_directives.proofs.lines.read_line.Goals as goal

pub loop-next-preserved : goal.loop-next-preserved
loop-next-preserved g c =
    let before = c.loop-next.invariant in
    let n = c.in_ok-next.ensures.reads in
    let items = c.in_ok-put.ensures.tokens in
    record {
      whole = whole_more _ _ _ n.is n.takes.rest _ _ _ _ (rw c.in-Some.is at before.whole) items;
      place = place_more _ _ _ n.is n.takes.rest _ (rw c.in-Some.is at before.place);
      shown = shown_more _ _ _ _ _ n.is n.takes.rest (ap (option_map token_of) c.in-Some.is) ∙ before.shown;
      fewer = omega (arith, drop_fewer c.loop-next.lexer.rest c.next_line_token.new.lexer.rest 1 n.takes.rest);
      further = goes_then c.args.lexer.now c.loop-next.lexer c.next_line_token.new.lexer before.further n.takes.further;
      unspent = n.takes.spent;
      errors = n.errors ∙ before.errors;
      read_ordinary = rw items (All-push (λ (t : Token). IsTrue (is_ordinary t.value)) _ _ before.read_ordinary
          (readable_ordinary c.in-Some.token (rw c.in-Some.is at before.next_readable)));
      next_readable = c.in_ok-next.ensures.readable;
      comments = comments_more _ _ _ _ _ (rw c.in-Some.is at before.left) n.is n.takes.rest c.in_ok-next.ensures.comments ∙ (rw c.in-Some.is at before.comments);
      left = c.in_ok-next.ensures.left;
      kept = c.in_ok-put.ensures.kept ∙ before.kept;
    }

pub returns-clause-reads : goal.returns-clause-reads
returns-clause-reads g c =
    record { reads = search rules; comments = rw c.in_default.is at c.loop-next.invariant.comments; ordinary = search rules }

pub returns-in_err-next-clause-reads : goal.returns-in_err-next-clause-reads
returns-in_err-next-clause-reads g c =
    let e = err_from_is_err_and c.from_residual-in_err-next.result c.from_residual-in_err-next.ensures.1 in
    let before = c.loop-next.invariant in
    rw (e.1 ∙ ap Err e.2)
    (more_fails _ (option_map token_of) c.in_err-next.field-0.0 _ _ (token_of c.in-Some.token) _ c.loop-next.lexer c.next_line_token.new.lexer _
    (ap (option_map token_of) c.in-Some.is) before.whole before.shown before.further before.errors
    c.in_err-next.ensures.reads)
