use Rattle.std.proofs.Common.{sym, ◌∙◌, ap, option_map}
use Rattle.pp_lexer.specs.Reading.{after_first, first_char}
use Rattle.pp_lexer.proofs.words.TakenPunctLemmas.{taken_none, taken_bad, taken_one_end, taken_one, taken_two_end, taken_two, taken_three}
use Rattle.pp_lexer.proofs.words.PunctuatorsLemmas.{single_is, pair_is, triple_is}
use Rattle.pp_lexer.proofs.lexer.punctuation.take_punct.Goals as goal

pub returns-in_err-first-clause-value : goal.returns-in_err-first-clause-value
returns-in_err-first-clause-value c = c.from_residual.ensures ∙ (taken_none _ _ _ c.in_err-first.ensures.value c.peek_char.ensures.same).value

pub returns-in_err-one-clause-value : goal.returns-in_err-one-clause-value
returns-in_err-one-clause-value c = c.from_residual-in_err-one.ensures
    ∙ (taken_bad _ _ _ _ c.in_ok-first.ensures.value (single_is _ ∙ sym c.single.ensures ∙ c.in_err-one.was) c.peek_char.ensures.same).value

pub returns-in_err-one-clause-state : goal.returns-in_err-one-clause-state
returns-in_err-one-clause-state c = (taken_bad _ _ _ _ c.in_ok-first.ensures.value
    (single_is _ ∙ sym c.single.ensures ∙ c.in_err-one.was) c.peek_char.ensures.same).state

pub returns-in_default : goal.returns-in_default
returns-in_default c =
    let taken = taken_one_end _ _ _ _ (single_is _ ∙ sym c.single.ensures ∙ c.in_ok-one.was) _ c.in_ok-first.ensures.value
    (c.in_default.ensures.value ∙ ap (λ r. option_map (λ s. s.c) (first_char r)) (c.next_char.ensures.state
    ∙ ap after_first c.peek_char.ensures.same)) (c.peek_char-2.ensures.same ∙ c.next_char.ensures.state ∙ ap after_first c.peek_char.ensures.same) in
    record { value = taken.value; state = taken.state }

pub returns-in_default-pair : goal.returns-in_default-pair
returns-in_default-pair c =
    let taken = taken_one _ _ _ _ (single_is _ ∙ sym c.single.ensures ∙ c.in_ok-one.was) _ _ c.in_ok-first.ensures.value
    (c.in-Some.ensures.value ∙ ap (λ r. option_map (λ s. s.c) (first_char r)) (c.next_char.ensures.state ∙ ap after_first c.peek_char.ensures.same))
    (pair_is _ _ ∙ sym c.pair.ensures ∙ c.in_default-pair.is) (c.peek_char-2.ensures.same ∙ c.next_char.ensures.state
    ∙ ap after_first c.peek_char.ensures.same) in
    record { value = taken.value; state = taken.state }

pub returns-in_default-peek_char : goal.returns-in_default-peek_char
returns-in_default-peek_char c =
    let taken = taken_two_end _ _ _ _ (single_is _ ∙ sym c.single.ensures ∙ c.in_ok-one.was) _ _
    (pair_is _ _ ∙ sym c.pair.ensures ∙ c.in-Some-pair.is) _ c.in_ok-first.ensures.value
    (c.in-Some.ensures.value ∙ ap (λ r. option_map (λ s. s.c) (first_char r)) (c.next_char.ensures.state ∙ ap after_first c.peek_char.ensures.same))
    (c.in_default-peek_char.ensures.value ∙ ap (λ r. option_map (λ s. s.c) (first_char r)) (c.next_char-2.ensures.state
    ∙ ap after_first (c.peek_char-2.ensures.same ∙ c.next_char.ensures.state ∙ ap after_first c.peek_char.ensures.same)))
    (c.peek_char-3.ensures.same ∙ c.next_char-2.ensures.state
    ∙ ap after_first (c.peek_char-2.ensures.same ∙ c.next_char.ensures.state ∙ ap after_first c.peek_char.ensures.same)) in
    record { value = taken.value; state = taken.state }

pub returns-in_default-triple : goal.returns-in_default-triple
returns-in_default-triple c =
    let taken = taken_two _ _ _ _ (single_is _ ∙ sym c.single.ensures ∙ c.in_ok-one.was) _ _
    (pair_is _ _ ∙ sym c.pair.ensures ∙ c.in-Some-pair.is) _ _ c.in_ok-first.ensures.value
    (c.in-Some.ensures.value ∙ ap (λ r. option_map (λ s. s.c) (first_char r)) (c.next_char.ensures.state ∙ ap after_first c.peek_char.ensures.same))
    (c.in-Some-peek_char.ensures.value ∙ ap (λ r. option_map (λ s. s.c) (first_char r)) (c.next_char-2.ensures.state
    ∙ ap after_first (c.peek_char-2.ensures.same ∙ c.next_char.ensures.state ∙ ap after_first c.peek_char.ensures.same)))
    (triple_is _ _ _ ∙ sym c.triple.ensures ∙ c.in_default-triple.is) (c.peek_char-3.ensures.same ∙ c.next_char-2.ensures.state
    ∙ ap after_first (c.peek_char-2.ensures.same ∙ c.next_char.ensures.state ∙ ap after_first c.peek_char.ensures.same)) in
    record { value = taken.value; state = taken.state }

pub returns : goal.returns
returns c =
    let taken = taken_three _ _ _ _ (single_is _ ∙ sym c.single.ensures ∙ c.in_ok-one.was) _ _
    (pair_is _ _ ∙ sym c.pair.ensures ∙ c.in-Some-pair.is) _ _ _ c.in_ok-first.ensures.value
    (c.in-Some.ensures.value ∙ ap (λ r. option_map (λ s. s.c) (first_char r)) (c.next_char.ensures.state ∙ ap after_first c.peek_char.ensures.same))
    (c.in-Some-peek_char.ensures.value ∙ ap (λ r. option_map (λ s. s.c) (first_char r)) (c.next_char-2.ensures.state
    ∙ ap after_first (c.peek_char-2.ensures.same ∙ c.next_char.ensures.state ∙ ap after_first c.peek_char.ensures.same)))
    (triple_is _ _ _ ∙ sym c.triple.ensures ∙ c.in-Some-triple.is) (c.next_char-3.ensures.state
    ∙ ap after_first (c.peek_char-3.ensures.same ∙ c.next_char-2.ensures.state
    ∙ ap after_first (c.peek_char-2.ensures.same ∙ c.next_char.ensures.state ∙ ap after_first c.peek_char.ensures.same))) in
    record { value = taken.value; state = taken.state }
