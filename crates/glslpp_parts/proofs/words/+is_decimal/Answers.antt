use Rattle.std.proofs.Common.{◌∙◌, sym, arith}
use Rattle.std.proofs.lemmas.Bool.{eqb-true}
use Rattle.glslpp_parts.proofs.DecimalLemmas.{one_digit, more_digits}
use Rattle.glslpp_parts.proofs.words.+is_decimal.Goals as goal

pub returns-then-is_empty : goal.returns-then-is_empty
returns-then-is_empty t c =
    λ h. one_digit c.args.bytes.now c.in-Some.front.now c.in-Some.digit.now c.args.number c.in-Some.ensures.cases.0
    (sym c.is_empty.ensures ∙ c.if-is_empty.true) (omega arith) (sym c.from.ensures ∙ eqb-true _ _ h)

pub returns : goal.returns
returns t c =
    λ h. more_digits c.args.bytes.now c.in-Some.front.now c.in-Some.digit.now c.args.number c.in-Some.ensures.cases.0 (omega arith)
    (omega arith) (sym c.from-2.ensures ∙ c.if-from-number.false) (c.is_decimal.ensures h)
