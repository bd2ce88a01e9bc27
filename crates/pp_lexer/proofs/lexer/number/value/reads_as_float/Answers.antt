use Rattle.std.proofs.Common.{◌∙◌, ap}
use Rattle.pp_lexer.specs.NumberValue.{float_exponent}
use Rattle.pp_lexer.proofs.numbers.FloatLemmas.{pointed_is, plain_is, point_first_is}
use Rattle.pp_lexer.proofs.lexer.number.value.reads_as_float.Goals as goal
use Rattle.pp_lexer.proofs.lexer.number.value.reads_as_float.Goals.{then-skip_char, else-skip_char}

pub returns-then-skip_digits : goal.returns-then-skip_digits
returns-then-skip_digits c =
    elim c.if-skip_char.branch [
      | then-skip_char w ↦ c.ends_in_exponent.ensures ∙ ap float_exponent w.text-is
          ∙ pointed_is c.args.text.now _ _ _ _ _ c.skip_digits.ensures.any c.if-skip_digits.true c.skip_digits.ensures.state
          c.skip_char.ensures.test w.if-skip_char.true c.skip_char.ensures.state w.skip_digits-then-skip_char.ensures.state
      | else-skip_char w ↦ c.ends_in_exponent.ensures ∙ ap float_exponent w.text-is
          ∙ plain_is c.args.text.now _ _ _ _ c.skip_digits.ensures.any c.if-skip_digits.true c.skip_digits.ensures.state
          c.skip_char.ensures.test w.if-skip_char.false c.skip_char.ensures.state
    ]

pub returns : goal.returns
returns c =
    c.ends_in_exponent-2.ensures ∙ point_first_is c.args.text.now _ _ _ _ _ _ c.skip_digits.ensures.any c.if-skip_digits.false c.skip_digits.ensures.state
    c.skip_char-2.ensures.test c.if-not-skip_char.false c.skip_char-2.ensures.state c.skip_digits-2.ensures.any c.if-not-skip_digits.false
    c.skip_digits-2.ensures.state
