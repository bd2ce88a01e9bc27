use Rattle.std.proofs.Common.{rules, ◌∙◌, ap, sym, is_none, not, Bool, w64, FitsSigned}
use Rattle.std.proofs.lemmas.Int.{to_z-of_z}
use Rattle.std.specs.Prelude.{Ok, Err}
use Rattle.pp_model.specs.Emitting.{answers_at}
use Rattle.pp_model.proofs.values.LineExpressionLemmas.{alone_at_fault, alone_at_value, none_copied, numbers_alone, numbers_followed}
use Rattle.pp_reference.specs.inner.Changes.{meaning_of}
use Rattle.pp_reference.proofs.FirstNumberLemmas.{first_by_value}
use Rattle.pp_reference.proofs.condition.line_number.Goals as goal

pub returns-clause-first : goal.returns-clause-first
returns-clause-first c =
    let fits : FitsSigned w64 c.in-Ok.value = search rules in
    let some = rw (to_z-of_z w64 c.in-Ok.value fits) at (sym c.as_line_number-first.ensures ∙ c.in-Some.is) in
    first_by_value (answers_at c.args.levels) c.args.directive c.args.tokens c.args.numbering (meaning_of c.args.definitions.now)
    c.in_ok-words.words _ (rw (← c.tokens.view_is) c.in_ok-words.ensures.words) _ c.in_ok-value.ensures.takes c.in-Ok.value _ c.in-Ok.is (sym some)

pub returns-then-is_none-clause-reads : goal.returns-then-is_none-clause-reads
returns-then-is_none-clause-reads c =
    let fits : FitsSigned w64 c.in-Ok.value = search rules in
    let some = rw (to_z-of_z w64 c.in-Ok.value fits) at (sym c.as_line_number-first.ensures ∙ c.in-Some.is) in
    let last = ap is_none (sym c.peek.ensures) ∙ none_copied c.peek.result ∙ ap not c.is_none.ensures ∙ ap (λ (b : Bool). not (not b)) c.if-is_none.true in
    record {
      words = c.in_ok-words.words;
      read = rw (← c.tokens.view_is) c.in_ok-words.ensures.words;
      numbers = numbers_alone c.args.directive c.in_ok-words.words _ _ c.in_ok-value.ensures.takes c.in-Ok.value c.in-Some.number
          c.in-Ok.is some last;
    }

pub returns-clause-reads : goal.returns-clause-reads
returns-clause-reads c =
    let fits : FitsSigned w64 c.in-Ok.value = search rules in
    let some = rw (to_z-of_z w64 c.in-Ok.value fits) at (sym c.as_line_number-first.ensures ∙ c.in-Some.is) in
    let more = ap is_none (sym c.peek.ensures) ∙ none_copied c.peek.result ∙ ap not c.is_none.ensures ∙ ap (λ (b : Bool). not (not b)) c.if-is_none.false in
    record {
      words = c.in_ok-words.words;
      read = rw (← c.tokens.view_is) c.in_ok-words.ensures.words;
      numbers = numbers_followed c.args.directive c.in_ok-words.words _ _ c.in_ok-value.ensures.takes c.in-Ok.value c.in-Some.number
          c.in-Ok.is some (Err c.in-Err-2.fault) more
          (alone_at_fault c.args.directive _ _ _ c.in-Err-2.fault (rw c.in-Err-2.is at c.in_ok-value_alone.ensures));
    }

pub returns-in-Ok-2-clause-reads : goal.returns-in-Ok-2-clause-reads
returns-in-Ok-2-clause-reads c =
    let fits : FitsSigned w64 c.in-Ok.value = search rules in
    let some = rw (to_z-of_z w64 c.in-Ok.value fits) at (sym c.as_line_number-first.ensures ∙ c.in-Some.is) in
    let more = ap is_none (sym c.peek.ensures) ∙ none_copied c.peek.result ∙ ap not c.is_none.ensures ∙ ap (λ (b : Bool). not (not b)) c.if-is_none.false in
    record {
      words = c.in_ok-words.words;
      read = rw (← c.tokens.view_is) c.in_ok-words.ensures.words;
      numbers = numbers_followed c.args.directive c.in_ok-words.words _ _ c.in_ok-value.ensures.takes c.in-Ok.value c.in-Some.number
          c.in-Ok.is some (Ok c.in-Some.number) more
          (alone_at_value c.args.directive _ _ (λ value. c.in-Some.number) c.in-Ok-2.field-0
          (rw c.in-Ok-2.is at c.in_ok-value_alone.ensures));
    }
