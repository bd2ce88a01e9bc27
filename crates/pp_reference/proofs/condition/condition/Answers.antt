use Rattle.std.proofs.Common.{rules, ◌≡◌, not, w64}
use Rattle.std.specs.Int.{cast_unsigned}
use Rattle.std.proofs.Math.Dec.{eqb}
use Rattle.pp_expression.specs.Arithmetic.{is_zero}
use Rattle.pp_model.proofs.values.LineExpressionLemmas.{alone_at_value}
use Rattle.pp_reference.proofs.condition.condition.Goals as goal

pub returns-in-Ok-clause-reads : goal.returns-in-Ok-clause-reads
returns-in-Ok-clause-reads c =
    let alone = alone_at_value c.args.directive _ (λ value. value) (λ value. not (is_zero value)) c.in-Ok.value
    (rw c.in-Ok.is at c.in_ok-value.ensures) in
    let holds : not (eqb (cast_unsigned w64 c.in-Ok.value) 0) ≡ not (is_zero c.in-Ok.value) = search rules in
    record {
      words = c.in_ok-words.words;
      read = rw (← c.tokens.view_is) c.in_ok-words.ensures.words;
      value = rw holds alone;
    }
