use Rattle.std.proofs.Common.{rules, ◌≡◌, ◌∙◌, ap, sym, subst, refl, ℕ, ℤ, List, slice_get, Some, is_none, not, Bool, true, false, w64, FitsSigned}
use Rattle.std.specs.Prelude.{Ok, Err}
use Rattle.std.proofs.lemmas.Int.{to_z-of_z}
use Rattle.pp_model.specs.declared.place.Place.{Place}
use Rattle.pp_lexer.specs.declared.token.Token.{Token}
use Rattle.pp_model.specs.Places.{PlacedFault}
use Rattle.pp_model.specs.Emitting.{answers_at, expansion_limit}
use Rattle.pp_model.specs.LineValues.{IsAlone, IsLineNumber}
use Rattle.pp_model.specs.LineValues as line
use Rattle.pp_model.specs.declared.word.LineKind.TheVariants.{LineNumber}
use Rattle.pp_model.proofs.values.LineExpressionLemmas.{alone_at_fault, none_copied, numbers_alone, numbers_followed}
use Rattle.pp_macros.specs.inner.Defined.{Defined, meaning_of}
use Rattle.pp_macros.proofs.taking.AnswerLemmas.{satisfies_exit, fault_of}
use Rattle.pp_directives.specs.inner.IfParsing.{IfParser, IsAtFront, TakesExpression}
use Rattle.pp_directives.proofs.line_value.line_number.Goals as goal
use Rattle.pp_model.specs.Numbering.{as_line_number}
use Rattle.pp_model.specs.declared.numbering.Numbering.{Numbering}

module _ (directive : Place) (tokens : List Token) (numbering : Numbering) (definitions : List Defined) (front after : IfParser)
    (at_front : IsAtFront LineNumber directive tokens numbering definitions front) (value : ℤ) (n : ℕ)
    (takes : TakesExpression front (Ok value) after) (some : as_line_number value ≡ Some n) where
  taken : line.TakesExpression directive front.words (Ok value) after.words
  taken = subst (λ (place : Place). line.TakesExpression place front.words (Ok value) after.words) at_front.place takes.takes

  -- the number, if no word is left after its expression
  alone : is_none (slice_get after.words.words 0) ≡ true
      → IsLineNumber (answers_at expansion_limit) directive tokens numbering (meaning_of definitions) (Ok n)
  alone last = record {
    words = front.words;
    read = at_front.words;
    numbers = numbers_alone directive front.words after.words (Ok value) taken value n refl some last;
  }

  -- the fault of the second expression
  followed : (fault : PlacedFault) → is_none (slice_get after.words.words 0) ≡ false
      → IsAlone {A = ℤ} after.directive after.words (λ value. value) (Err fault)
      → IsLineNumber (answers_at expansion_limit) directive tokens numbering (meaning_of definitions) (Err fault)
  followed fault more second = record {
    words = front.words;
    read = at_front.words;
    numbers = numbers_followed directive front.words after.words (Ok value) taken value n refl some (Err fault) more
        (alone_at_fault directive after.words (λ value. value) (λ value. n) fault
        (subst (λ (place : Place). IsAlone {A = ℤ} place after.words (λ value. value) (Err fault)) (takes.place ∙ at_front.place) second));
  }

pub returns-then-is_none-clause-is : goal.returns-then-is_none-clause-is
returns-then-is_none-clause-is c =
    let fits : FitsSigned w64 c.in_ok-value.value = search rules in
    let some = rw (to_z-of_z w64 c.in_ok-value.value fits) at (sym c.as_line_number.ensures ∙ c.in-Some.is) in
    let last = ap is_none (sym c.peek.ensures) ∙ none_copied c.peek.result ∙ ap not c.is_none.ensures ∙ ap (λ (b : Bool). not (not b)) c.if-is_none.true in
    alone c.args.tokens.directive c.args.tokens.tokens c.args.scope.now.numbering c.args.scope.now.definitions.now c.in_ok-parser.parser _ c.in_ok-parser.ensures c.in_ok-value.value c.in-Some.number
    c.in_ok-value.ensures.takes some last

pub returns-clause-is : goal.returns-clause-is
returns-clause-is c =
    let fits : FitsSigned w64 c.in_ok-value.value = search rules in
    let some = rw (to_z-of_z w64 c.in_ok-value.value fits) at (sym c.as_line_number.ensures ∙ c.in-Some.is) in
    let more = ap is_none (sym c.peek.ensures) ∙ none_copied c.peek.result ∙ ap not c.is_none.ensures ∙ ap (λ (b : Bool). not (not b)) c.if-is_none.false in
    satisfies_exit _ c.in-Err.halt _ refl (λ fault same.
    followed c.args.tokens.directive c.args.tokens.tokens c.args.scope.now.numbering c.args.scope.now.definitions.now c.in_ok-parser.parser _ c.in_ok-parser.ensures c.in_ok-value.value c.in-Some.number
    c.in_ok-value.ensures.takes some fault more (fault_of c.in-Err.halt fault _ same c.in-Err.ensures))
