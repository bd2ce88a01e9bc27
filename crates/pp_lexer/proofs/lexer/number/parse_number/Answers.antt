use Rattle.std.proofs.Common.{◌≡◌, sym, ◌∙◌, ap, take, arith}
use Rattle.pp_lexer.specs.Longest.{longest}
use Rattle.pp_lexer.specs.Numbers.{is_number}
use Rattle.pp_lexer.specs.NumberValue.{float_suffix, integer_suffix}
use Rattle.pp_lexer.specs.Reading.{letters, advanced}
use Rattle.pp_lexer.proofs.numbers.NumberAtLemmas.{at_float, at_integer, letters_after, after_suffix}
use Rattle.pp_lexer.proofs.lexer.number.parse_number.Goals as goal

pub returns-then-is_float-clause-value : goal.returns-then-is_float-clause-value
returns-then-is_float-clause-value c = grind (arith, letters_after, at_float)

pub returns-then-is_float-clause-state : goal.returns-then-is_float-clause-state
returns-then-is_float-clause-state c =
    let w : c.new-word.result ≡ take (longest is_number (letters c.args.inner.now.rest)) (letters c.args.inner.now.rest) =
    c.new-word.ensures ∙ ap (λ r. take c.take_number-length.result (letters r.rest)) c.twin-start.ensures.same
    ∙ ap (λ n. take n (letters c.args.inner.now.rest)) c.take_number-length.ensures.length in
    let l = letters_after c.args.inner.now c.take_number-length.new.inner c.take_number-length.ensures.state in
    let o = at_float c.args.rules (letters c.args.inner.now.rest) c.new-word.result (letters c.take_number-length.new.inner.rest) w l
    (sym c.is_float.ensures ∙ c.if-is_float.true) in
    after_suffix (λ t. (float_suffix c.args.rules t).taken) c.new-word.result c.args.inner.now c.take_number-length.new.inner _ w c.take_number-length.ensures.state
    c.finish_float.ensures.state
    ∙ ap (λ x. advanced x.taken c.args.inner.now) o

pub returns-clause-value : goal.returns-clause-value
returns-clause-value c = grind (arith, letters_after, at_integer)

pub returns-clause-state : goal.returns-clause-state
returns-clause-state c =
    let w : c.new-word.result ≡ take (longest is_number (letters c.args.inner.now.rest)) (letters c.args.inner.now.rest) =
    c.new-word.ensures ∙ ap (λ r. take c.take_number-length.result (letters r.rest)) c.twin-start.ensures.same
    ∙ ap (λ n. take n (letters c.args.inner.now.rest)) c.take_number-length.ensures.length in
    let l = letters_after c.args.inner.now c.take_number-length.new.inner c.take_number-length.ensures.state in
    let o = at_integer c.args.rules (letters c.args.inner.now.rest) c.new-word.result (letters c.take_number-length.new.inner.rest) w l
    (sym c.is_float.ensures ∙ c.if-is_float.false) in
    after_suffix (λ t. (integer_suffix c.args.rules t).taken) c.new-word.result c.args.inner.now c.take_number-length.new.inner _ w
    c.take_number-length.ensures.state c.finish_integer.ensures.state
    ∙ ap (λ x. advanced x.taken c.args.inner.now) o
