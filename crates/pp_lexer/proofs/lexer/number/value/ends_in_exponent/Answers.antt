use Rattle.std.proofs.Common.{◌∙◌}
use Rattle.pp_lexer.proofs.numbers.FloatLemmas.{exponent_is}
use Rattle.pp_lexer.proofs.lexer.number.value.ends_in_exponent.Goals as goal

pub returns-then-skip_digits : goal.returns-then-skip_digits
returns-then-skip_digits c =
    c.is_at_end-then-skip_digits.ensures
    ∙ exponent_is c.args.text.now _ _ _ _ _ _ c.skip_char.ensures.test c.if-not-skip_char.false c.skip_char.ensures.state
    c.skip_either.ensures.test c.skip_either.ensures.state
    c.skip_digits.ensures.any c.if-skip_digits.true c.skip_digits.ensures.state
