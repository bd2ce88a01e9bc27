use Rattle.std.proofs.Common.{rules, ◌∙◌, ap, sym, w64, FitsSigned}
use Rattle.std.proofs.lemmas.Int.{to_z-of_z}
use Rattle.std.specs.Option.{option_copied}
use Rattle.pp_model.proofs.values.LineExpressionLemmas.{alone_then}
use Rattle.pp_reference.proofs.condition.value_alone.Goals as goal

pub returns-in_ok-unwanted_word-in-Some : goal.returns-in_ok-unwanted_word-in-Some
returns-in_ok-unwanted_word-in-Some c =
    let alone = alone_then c.args.directive c.args.words.now c.take_expression.new.self _ c.in_ok-value.ensures.takes
    (λ value. value) c.in-Ok.value c.in-Ok.is in
    rw c.in_ok-unwanted_word-in-Some.ensures (rw (sym c.peek.ensures ∙ ap option_copied c.in-Some.is) at alone)

pub returns-in-None : goal.returns-in-None
returns-in-None c =
    let fits : FitsSigned w64 c.in-Ok.value = search rules in
    let alone = alone_then c.args.directive c.args.words.now c.take_expression.new.self _ c.in_ok-value.ensures.takes
    (λ value. value) c.in-Ok.value c.in-Ok.is in
    rw (to_z-of_z w64 c.in-Ok.value fits) (rw (sym c.peek.ensures ∙ ap option_copied c.in-None.is) at alone)
