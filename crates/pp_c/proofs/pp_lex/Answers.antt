use Rattle.std.proofs.Common.{◌≡◌, ◌∙◌, inl, ap, sym, arith}
use denote.Enum.Declared.{tag_of}
use Rattle.pp_c.specs.contracts.status.Status.{the_type}
use Rattle.pp_c.proofs.PreprocessedLemmas.{are_written}
use Rattle.pp_c.proofs.ResultLemmas.{if_ok, and_ok, and_err, err_and, and_value}
use Rattle.pp_c.proofs.StatusLemmas.{by_number, ok_if_items, answers_of_lexer}
use Rattle.pp_c.specs.Lexing.{lexer_entries}
use Rattle.pp_c.specs.declared.status.End.TheVariants.{All, Front, Include}
use Rattle.pp_c.proofs.pp_lex.Goals as goal

pub returns-clause-given : goal.returns-clause-given
returns-clause-given c = λ h.
    let s = c.status_after.ensures in
    let ok = ok_if_items c.and.result c.status_after.result s.done s.partial s.asking s.too_small (inl (inl h)) in
    let takes = if_ok c.lex-end.result (and_ok c.lex-end.result All (rw c.and.ensures at ok)) c.lex-end.ensures.given in
    let same_items = sym c.new-output.ensures.same_items ∙ sym takes.same_items in
    let same_texts = sym c.new-output.ensures.same_texts ∙ sym takes.same_texts in
    are_written (lexer_entries c.args.source.now) c.new-output.result c.lex-end.new.output c.args.items.now _ c.args.texts.now _ c.sizes-wanted.result
    (omega arith) (omega arith) c.new-output.ensures.items c.new-output.ensures.texts c.new-output.ensures.sizes takes
    (c.items-1.given.1.1 same_items) (c.texts-1.given.1.1 same_texts) c.sizes-wanted.ensures

pub returns-clause-not_utf8 : goal.returns-clause-not_utf8
returns-clause-not_utf8 c = (
  λ e. c.lex-end.ensures.not_utf8.0 (and_err c.lex-end.result All _ (rw c.and.ensures at c.status_after.ensures.not_utf8.0 (by_number c.status_after.result 2 e))),
  λ h. ap (tag_of the_type) (c.status_after.ensures.not_utf8.1 (c.and.ensures ∙ err_and c.lex-end.result All _ (c.lex-end.ensures.not_utf8.1 h))),
)

pub returns-clause-too_long : goal.returns-clause-too_long
returns-clause-too_long c = (
  λ e. c.lex-end.ensures.too_long.0 (and_err c.lex-end.result All _ (rw c.and.ensures at c.status_after.ensures.too_long.0 (by_number c.status_after.result 3 e))),
  λ h. ap (tag_of the_type) (c.status_after.ensures.too_long.1 (c.and.ensures ∙ err_and c.lex-end.result All _ (c.lex-end.ensures.too_long.1 h))),
)

pub returns-clause-no_definition : goal.returns-clause-no_definition
returns-clause-no_definition c = λ e.
    c.lex-end.ensures.no_definition (and_err c.lex-end.result All _ (rw c.and.ensures at c.status_after.ensures.bad_definition.0 (by_number c.status_after.result 4 e)))

pub returns-clause-answer : goal.returns-clause-answer
returns-clause-answer c =
    let s = c.status_after.ensures in
    answers_of_lexer c.status_after.result s.good_options s.no_stream
    (λ e. let bad : Front ≡ All = and_value c.lex-end.result All Front (sym c.and.ensures ∙ s.partial e) in cc)
    (λ e. let bad : Include ≡ All = and_value c.lex-end.result All Include (sym c.and.ensures ∙ s.asking e) in cc)
    (λ e. c.lex-end.ensures.no_budget (and_err c.lex-end.result All _ (rw c.and.ensures at s.over_budget.0 e)))
    (λ e. c.lex-end.ensures.no_texts (and_err c.lex-end.result All _ (rw c.and.ensures at s.too_deep.0 e)))
