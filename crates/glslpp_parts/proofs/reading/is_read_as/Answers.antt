use Rattle.std.proofs.Common.{◌∙◌, ap, subst, sym}
use Rattle.std.proofs.lemmas.Bool.{eqb-true}
use Rattle.std.proofs.lemmas.List.{nil_from_length}
use Rattle.pp_lexer.specs.PlainItems.{PassesBlanks}
use Rattle.glslpp_parts.proofs.ReadingLemmas.{one_word, readings, same_value}
use Rattle.glslpp_parts.proofs.reading.is_read_as.Goals as goal

pub returns-in-Some : goal.returns-in-Some
returns-in-Some c =
    let passed = subst (λ l. PassesBlanks l c.peek_word.new.self) c.with_rules-lexer.ensures c.in-Some.ensures.same in
    let none = nil_from_length c.in-Some.word.rest.now (eqb-true _ _ (sym (c.if-is_empty.ensures {u = tt}))) in
    let read = one_word c.args.rules c.args.text.now c.peek_word.new.self c.in-Some.word passed c.in-Some.ensures.passes none in (
      (λ h. read ∙ ap readings (c.is_word_of.ensures.0 h)),
      (λ e. c.is_word_of.ensures.1 (same_value _ _ (sym read ∙ e))),
    )
